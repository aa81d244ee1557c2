use Rattle.rtgs_http_bodies.proofs.desks.QueueValues.{queued_fits}
use Rattle.rtgs_http_bodies.proofs.desks.laws.queued_values_fit.Goals as goal

pub returns : goal.returns
returns c = queued_fits
