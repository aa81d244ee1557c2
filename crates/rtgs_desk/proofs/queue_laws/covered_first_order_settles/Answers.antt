use Rattle.rtgs_desk.proofs.FirstOrders.{settles}
use Rattle.rtgs_desk.proofs.queue_laws.covered_first_order_settles.Goals as goal

pub returns : goal.returns
returns c = settles c.chosen_are_beginnings.ensures
