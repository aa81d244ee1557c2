use Rattle.std.proofs.Common.{inl}
use Rattle.rtgs_http_bodies.proofs.desks.readings.text_of.Goals as goal

pub returns-in-Queues-clause-answered : goal.returns-in-Queues-clause-answered
returns-in-Queues-clause-answered g c honest book held choice greatest =
    rw c.in-Queues.is (inl (c.queues_line.ensures.answered book choice held greatest))
