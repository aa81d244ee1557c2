use Rattle.rtgs_laws.proofs.Lifting.{whole_step_sound}
use Rattle.rtgs_laws.proofs.laws.step_keeps_soundness.Goals as goal

pub returns : goal.returns
returns c = whole_step_sound c.own_step_keeps_soundness.ensures
