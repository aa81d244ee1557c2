use Rattle.rtgs_http_bodies.proofs.desks.WaitingValues.{waiting_fits}
use Rattle.rtgs_http_bodies.proofs.desks.laws.waiting_values_fit.Goals as goal

pub returns : goal.returns
returns c = waiting_fits c.balances_are_small.ensures
