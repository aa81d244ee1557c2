use Rattle.rtgs_examples.proofs.Held.{held_order_moves_nothing_comes}
use Rattle.rtgs_examples.proofs.held_order_moves_nothing.Goals as goal

pub returns : goal.returns
returns c = held_order_moves_nothing_comes
