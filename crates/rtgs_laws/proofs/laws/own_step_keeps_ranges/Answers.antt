use Rattle.rtgs_laws.proofs.Steady.{step_fits}
use Rattle.rtgs_laws.proofs.laws.own_step_keeps_ranges.Goals as goal

pub returns : goal.returns
returns c = step_fits
