use Rattle.rtgs_laws.proofs.Calm.{run_calm}
use Rattle.rtgs_laws.proofs.laws.run_keeps_calm.Goals as goal

pub returns : goal.returns
returns c = run_calm c.step_keeps_calm.ensures c.step_keeps_soundness.ensures
