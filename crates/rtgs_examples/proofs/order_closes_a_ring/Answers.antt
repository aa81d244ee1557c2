use Rattle.rtgs_examples.proofs.Automatic.{order_closes_a_ring_comes}
use Rattle.rtgs_examples.proofs.order_closes_a_ring.Goals as goal

pub returns : goal.returns
returns c = order_closes_a_ring_comes c.procedure_finds_the_greatest.ensures
