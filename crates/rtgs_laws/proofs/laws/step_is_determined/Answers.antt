use Rattle.rtgs_laws.proofs.Lifting.{whole_step_determined}
use Rattle.rtgs_laws.proofs.laws.step_is_determined.Goals as goal

pub returns : goal.returns
returns c = whole_step_determined c.greatest_is_unique.ensures
