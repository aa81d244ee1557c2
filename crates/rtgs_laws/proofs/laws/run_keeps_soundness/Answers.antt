use Rattle.rtgs_laws.proofs.Runs.{run_sound}
use Rattle.rtgs_laws.proofs.laws.run_keeps_soundness.Goals as goal

pub returns : goal.returns
returns c = run_sound c.step_keeps_soundness.ensures
