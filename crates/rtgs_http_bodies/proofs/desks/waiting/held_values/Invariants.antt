use Rattle.std.proofs.Common.{◌≡◌, map, take}
use Rattle.serde_json.specs.View.{view}
use Rattle.rtgs_http_bodies.specs.desks.Waiting.{held_data}
use Rattle.rtgs_http_bodies.proofs.desks.waiting.held_values.Given as goal

-- the first orders
abbrev pub invariant-loop-order : goal.invariant-loop-order
invariant-loop-order l = map view l.items.items ≡ map held_data (take l.order-index l.orders)
