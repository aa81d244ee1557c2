use Rattle.rtgs_laws.proofs.Steady.{settle_total}
use Rattle.rtgs_laws.proofs.laws.settling_keeps_the_total.Goals as goal

pub returns : goal.returns
returns c = λ book is_in sound _. settle_total c.total_is_issued.ensures book is_in sound
