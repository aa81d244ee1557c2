use Rattle.rtgs_examples.proofs.Held.{later_order_stays_held_comes}
use Rattle.rtgs_examples.proofs.later_order_stays_held.Goals as goal

pub returns : goal.returns
returns c = later_order_stays_held_comes c.procedure_finds_the_greatest.ensures
