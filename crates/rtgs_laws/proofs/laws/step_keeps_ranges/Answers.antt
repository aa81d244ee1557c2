use Rattle.rtgs_laws.proofs.Lifting.{whole_step_fits}
use Rattle.rtgs_laws.proofs.Steady.{step_fits}
use Rattle.rtgs_laws.proofs.laws.step_keeps_ranges.Goals as goal

pub returns : goal.returns
returns c = whole_step_fits step_fits
