use Rattle.rtgs_http_bodies.proofs.desks.WaitingValues.{status_fits}
use Rattle.rtgs_http_bodies.proofs.desks.laws.status_values_fit.Goals as goal

pub returns : goal.returns
returns c = status_fits c.total_is_small.ensures c.few_orders_wait.ensures
