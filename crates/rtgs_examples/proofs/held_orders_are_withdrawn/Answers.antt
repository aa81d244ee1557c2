use Rattle.rtgs_examples.proofs.Held.{held_orders_are_withdrawn_comes}
use Rattle.rtgs_examples.proofs.held_orders_are_withdrawn.Goals as goal

pub returns : goal.returns
returns c = held_orders_are_withdrawn_comes c.procedure_finds_the_greatest.ensures
