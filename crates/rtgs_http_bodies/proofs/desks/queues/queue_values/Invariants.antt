use Rattle.std.proofs.Common.{◌≡◌, map, take}
use Rattle.serde_json.specs.View.{view}
use Rattle.rtgs_http_bodies.specs.desks.Queues.{QueuesFit, queue_entry}
use Rattle.rtgs_http_bodies.proofs.desks.queues.queue_values.Given as goal

-- the first queues
abbrev pub invariant-loop-queue : goal.invariant-loop-queue
invariant-loop-queue l = QueuesFit l.queues
    → map view l.items.items ≡ map queue_entry (take l.queue-index l.queues)
