use Rattle.rtgs_promises.proofs.Crashes.{before_or_after}
use Rattle.rtgs_promises.proofs.desks.a_command_and_what_follows_are_one.Goals as goal

pub returns-clause-whole : goal.returns-clause-whole
returns-clause-whole g c honest book found held left =
    let did = c.submit.ensures.acts honest book held in
    before_or_after book did.book found c.args.command c.submit.result did.judged did.unjudged
    (did.after_a_crash found left)

pub returns-clause-calm : goal.returns-clause-calm
returns-clause-calm g c honest book found held left =
    (c.submit.ensures.acts honest book held).calm_after_a_crash found left
