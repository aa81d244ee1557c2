use Rattle.rtgs_cli.proofs.commands.Submitted.{submitted}
use Rattle.rtgs_cli.proofs.commands.submit.Goals as goal

pub returns-clause-replied : goal.returns-clause-replied
returns-clause-replied g c =
    let it = c.give_command-reply in
    submitted _ c.desk.ensures.value c.finish.ensures.desk c.in_ok-book.ensures.opened it.ensures.honest c.args.command
    it.result it.ensures.acts it.ensures.left
