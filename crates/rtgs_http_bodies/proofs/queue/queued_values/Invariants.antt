use Rattle.std.proofs.Common.{◌≡◌, ◌+◌, ◌++◌, map, drop}
use Rattle.serde_json.specs.View.{view}
use Rattle.rtgs_http_bodies.specs.Readings.{queued_from}
use Rattle.rtgs_http_bodies.proofs.queue.queued_values.Given as goal

-- the orders so far and those that are left are all
abbrev pub invariant-loop-index : goal.invariant-loop-index
invariant-loop-index l = map view l.items.items ++ queued_from (l.index + 1) (drop l.index l.orders)
    ≡ queued_from 1 l.orders
