use Rattle.rtgs_http_bodies.proofs.desks.QueueValues.{all_fit}
use Rattle.rtgs_http_bodies.proofs.desks.laws.all_queued_values_fit.Goals as goal

pub returns : goal.returns
returns c = all_fit
