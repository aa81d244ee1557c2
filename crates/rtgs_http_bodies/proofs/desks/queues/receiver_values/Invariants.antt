use Rattle.std.proofs.Common.{◌≡◌, map, take}
use Rattle.serde_json.specs.View.{view}
use Rattle.rtgs_http_bodies.specs.desks.Queues.{SumsFit, receiver_data}
use Rattle.rtgs_http_bodies.proofs.desks.queues.receiver_values.Given as goal

-- the first receivers
abbrev pub invariant-loop-receiver : goal.invariant-loop-receiver
invariant-loop-receiver l = SumsFit l.receivers
    → map view l.items.items ≡ map receiver_data (take l.receiver-index l.receivers)
