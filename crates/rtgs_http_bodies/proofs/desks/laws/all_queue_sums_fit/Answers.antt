use Rattle.rtgs_http_bodies.proofs.desks.QueueSums.{all_fit}
use Rattle.rtgs_http_bodies.proofs.desks.laws.all_queue_sums_fit.Goals as goal

pub returns : goal.returns
returns c = all_fit
