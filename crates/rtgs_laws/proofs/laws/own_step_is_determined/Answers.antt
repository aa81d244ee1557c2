use Rattle.rtgs_laws.proofs.Steps.{step_determined}
use Rattle.rtgs_laws.proofs.laws.own_step_is_determined.Goals as goal

pub returns : goal.returns
returns c = step_determined c.greatest_is_unique.ensures
