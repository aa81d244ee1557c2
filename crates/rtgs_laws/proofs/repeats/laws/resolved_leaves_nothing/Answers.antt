use Rattle.std.proofs.Common.{Ok, refl}
use Rattle.rtgs_book.specs.declared.answer.Answer.TheVariants.{Nothing}
use Rattle.rtgs_book.specs.declared.command.Command.TheVariants.{Resolve}
use Rattle.rtgs_book.specs.Outcome.{own_of}
use Rattle.rtgs_laws.proofs.repeats.Following.{own_step, alone_step}
use Rattle.rtgs_laws.proofs.repeats.Resolved.{resolved_again}
use Rattle.rtgs_laws.proofs.repeats.laws.resolved_leaves_nothing.Goals as goal

pub returns : goal.returns
returns c = λ old new reply sound accepted s. alone_step new new Resolve (Ok Nothing) refl
    (resolved_again c.chosen_are_beginnings.ensures c.rest_stays_queued.ensures c.settled_balances.ensures
    c.greatest_exists.ensures c.own_step_keeps_soundness.ensures old new (own_of reply) sound accepted
    (own_step old new Resolve reply refl s))
