use Rattle.rtgs_examples.proofs.Computed.{cut_off_stops_orders_comes}
use Rattle.rtgs_examples.proofs.cut_off_stops_orders.Goals as goal

pub returns : goal.returns
returns c = cut_off_stops_orders_comes c.procedure_finds_the_greatest.ensures
