use Rattle.rtgs_laws.proofs.Lifting.{whole_step_there}
use Rattle.rtgs_laws.proofs.laws.step_exists.Goals as goal

pub returns : goal.returns
returns c = whole_step_there c.greatest_exists.ensures c.own_step_keeps_soundness.ensures
