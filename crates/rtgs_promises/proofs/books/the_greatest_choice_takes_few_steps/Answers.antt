use Rattle.std.proofs.Common.{subst}
use Rattle.std.specs.Prelude.{slice_index}
use Rattle.rtgs_choices.specs.ByIndex.{positions_of}
use Rattle.rtgs_gridlock.specs.Choices.{IsGreatest}
use Rattle.rtgs_gridlock.specs.Workspaces.{lengths_of}
use Rattle.rtgs_promises.proofs.books.the_greatest_choice_takes_few_steps.Goals as goal

pub returns-clause-greatest : goal.returns-clause-greatest
returns-clause-greatest c book sound p q =
    let lengths = slice_index (lengths_of c.greatest.new.workspace) in
    c.greatest_means_greatest.ensures book lengths sound
    (subst (λ queues. IsGreatest (positions_of book) queues lengths) q
    (subst (λ positions. IsGreatest positions c.args.queues.now lengths) p c.greatest.ensures.greatest))
