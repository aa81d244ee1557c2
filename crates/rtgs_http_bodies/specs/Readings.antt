-- The values that the bodies of replies on orders and queues spell. Keys stand in byte order.
use Rattle.std.specs.Prelude.{ℕ, ◌+◌, List, [], ◌∷◌, codes, Option, None, Some}
use Rattle.serde_json.specs.Data.{Data, string, array, object, Members, member, no_members}
use Rattle.serde_json.specs.View.{items_of}
use Rattle.rtgs_money.specs.Date.{date_text}
use Rattle.rtgs_book.specs.declared.order.Order.{Order}
use Rattle.rtgs_book.specs.declared.order_state.OrderState.{OrderState}
use Rattle.rtgs_book.specs.declared.order_state.OrderState.TheVariants as state
use Rattle.rtgs_book.specs.declared.standing.Standing.{Standing}
use Rattle.rtgs_book.specs.declared.standing.Standing.TheVariants as standing
use Rattle.rtgs_book.specs.Standings.{word_of}
use Rattle.rtgs_http_bodies.specs.replies.Bodies.{whole}

-- an order's members from its number on; it stands so
abbrev pub order_members : Order → Standing → Members
order_members order standing = member (codes "number") (whole order.number)
    (member (codes "reference") (string order.reference) (member (codes "state") (string (word_of standing))
    (member (codes "to") (string order.receiver) no_members)))

-- an order's due date, where it has one, before other members
abbrev pub with_due : Option ℕ → Members → Members
with_due None members = members
with_due (Some due) members = member (codes "due") (string (date_text due)) members

-- the order as if it had no due date
abbrev pub undated : Order → Order
undated order = record order { due = None }

-- an order that has not settled, and so has no mark; it stands so
abbrev pub unsettled_order : Order → Standing → Data
unsettled_order order standing = object (member (codes "amount") (whole order.amount)
    (member (codes "date") (string (date_text order.date)) (with_due order.due (order_members order standing))))

-- an order that has settled under this mark
abbrev pub settled_order : Order → ℕ → Data
settled_order order mark = object (member (codes "amount") (whole order.amount)
    (member (codes "date") (string (date_text order.date)) (with_due order.due
    (member (codes "mark") (whole mark) (order_members order standing.Settled)))))

abbrev pub order_in : OrderState → Order → Data
order_in (state.Settled mark) order = settled_order order mark
order_in state.Queued order = unsettled_order order standing.Queued
order_in state.Held order = unsettled_order order standing.Held
order_in state.Withdrawn order = unsettled_order order standing.Withdrawn
order_in state.Rejected order = unsettled_order order standing.Rejected

-- what its sender is shown of an order; its mark where it has settled
abbrev pub order_data : Order → Data
order_data order = order_in order.state order

-- an order at this place of its queue
abbrev pub queued_data : ℕ → Order → Data
queued_data place order = object (member (codes "amount") (whole order.amount)
    (member (codes "number") (whole order.number)
    (member (codes "place") (whole place) (member (codes "reference") (string order.reference)
    (member (codes "to") (string order.receiver) no_members)))))

-- the orders of a queue, the first at this place
abbrev pub queued_from : ℕ → List Order → List Data
queued_from place [] = []
queued_from place (order ∷ orders) = queued_data place order ∷ queued_from (place + 1) orders

abbrev pub queue_data : List Order → Data
queue_data orders = object (member (codes "orders") (array (items_of (queued_from 1 orders))) no_members)
