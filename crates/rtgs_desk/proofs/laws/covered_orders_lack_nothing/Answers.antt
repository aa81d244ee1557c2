use Rattle.rtgs_desk.proofs.HeldLemmas.{lacks_nothing}
use Rattle.rtgs_desk.proofs.laws.covered_orders_lack_nothing.Goals as goal

pub returns : goal.returns
returns c = lacks_nothing
