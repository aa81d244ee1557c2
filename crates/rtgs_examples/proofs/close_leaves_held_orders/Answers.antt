use Rattle.rtgs_examples.proofs.Held.{close_leaves_held_orders_comes}
use Rattle.rtgs_examples.proofs.close_leaves_held_orders.Goals as goal

pub returns : goal.returns
returns c = close_leaves_held_orders_comes c.procedure_finds_the_greatest.ensures
