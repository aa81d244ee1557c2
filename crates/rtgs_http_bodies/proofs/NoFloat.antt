-- No queue or order tells a float.
use Rattle.std.proofs.Common.{◌≡◌, ◌+◌, ℕ, List, [], ◌∷◌, Option, Some, None, false, refl}
use Rattle.serde_json.specs.Data.{Members}
use Rattle.serde_json.specs.View.{items_of}
use Rattle.serde_json.specs.Written.{has_float, items_have_float, members_have_float}
use Rattle.rtgs_book.specs.declared.order.Order.{Order}
use Rattle.rtgs_book.specs.declared.order_state.OrderState.{OrderState}
use Rattle.rtgs_book.specs.declared.order_state.OrderState.TheVariants as state
use Rattle.rtgs_http_bodies.specs.Readings.{order_data, order_in, queue_data, queued_from, with_due}

due_has_no_float : (due : Option ℕ) (members : Members) → members_have_float members ≡ false
    → members_have_float (with_due due members) ≡ false
due_has_no_float None members none = none
due_has_no_float (Some due) members none = none

in_state_has_no_float : (state : OrderState) (order : Order) → has_float (order_in state order) ≡ false
in_state_has_no_float (state.Settled mark) order = due_has_no_float order.due _ refl
in_state_has_no_float state.Queued order = due_has_no_float order.due _ refl
in_state_has_no_float state.Held order = due_has_no_float order.due _ refl
in_state_has_no_float state.Withdrawn order = due_has_no_float order.due _ refl
in_state_has_no_float state.Rejected order = due_has_no_float order.due _ refl

pub order_has_no_float : (order : Order) → has_float (order_data order) ≡ false
order_has_no_float order = in_state_has_no_float order.state order

queued_have_no_float : (place : ℕ) (orders : List Order)
    → items_have_float (items_of (queued_from place orders)) ≡ false
queued_have_no_float place [] = refl
queued_have_no_float place (order ∷ orders) = queued_have_no_float (place + 1) orders

pub queue_has_no_float : (orders : List Order) → has_float (queue_data orders) ≡ false
queue_has_no_float orders = rw (queued_have_no_float 1 orders) refl
