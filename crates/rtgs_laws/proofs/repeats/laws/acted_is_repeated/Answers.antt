use Rattle.rtgs_laws.proofs.repeats.Acted.{acted}
use Rattle.rtgs_laws.proofs.repeats.Kept.{kept_through}
use Rattle.rtgs_laws.proofs.repeats.KeptSteps.{kept_after, own_step_kept}
use Rattle.rtgs_laws.proofs.repeats.laws.acted_is_repeated.Goals as goal

pub returns : goal.returns
returns c = λ old mid new command reply commands replies sound once accepted s run.
    acted old mid new command reply sound once accepted s (own_step_kept old s.0.book command s.0.reply sound s.1)
    (kept_through s.0.book mid new (kept_after c.own_step_keeps_soundness.ensures old mid command reply sound s)
    (c.records_are_kept.ensures mid new commands replies
    (c.step_keeps_soundness.ensures old mid command reply sound s) run))
