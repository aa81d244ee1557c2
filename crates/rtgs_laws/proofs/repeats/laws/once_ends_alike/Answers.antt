use Rattle.std.proofs.Common.{[]}
use Rattle.rtgs_laws.proofs.repeats.KeptSteps.{kept_itself}
use Rattle.rtgs_laws.proofs.repeats.Once.{once_run}
use Rattle.rtgs_laws.proofs.repeats.laws.once_ends_alike.Goals as goal

pub returns : goal.returns
returns c = λ old new commands replies sound run. once_run c.own_step_keeps_soundness.ensures
    c.what_did_not_act_leaves_the_book.ensures c.step_keeps_soundness.ensures old [] old new commands replies sound
    (kept_itself old) tt run
