-- The values that the bodies of replies on orders that wait spell. Keys stand in byte order.
use Rattle.std.specs.Prelude.{List, map, Option, Some, None, codes, FitsSigned}
use Rattle.std.specs.Int.{w64}
use Rattle.serde_json.specs.Data.{Data, string, array, object, Members, member, no_members, put}
use Rattle.serde_json.specs.View.{items_of}
use Rattle.rtgs_money.specs.Date.{date_text}
use Rattle.rtgs_book.specs.declared.order.Order.{Order}
use Rattle.rtgs_book.specs.declared.waiting_reading.WaitingReading.{WaitingReading}
use Rattle.rtgs_http_bodies.specs.replies.Bodies.{whole, signed}

-- an order's members from its number on, without where it stands
abbrev pub named_members : Order → Members
named_members order = member (codes "number") (whole order.number)
    (member (codes "reference") (string order.reference) (member (codes "to") (string order.receiver) no_members))

-- a held order; it is dated by its due date
abbrev pub held_data : Order → Data
held_data order = object (member (codes "amount") (whole order.amount)
    (member (codes "due") (string (date_text order.date)) (named_members order)))

-- what is shown of a participant's held orders
abbrev pub held_list_data : List Order → Data
held_list_data orders = object (member (codes "orders") (array (items_of (map held_data orders))) no_members)

-- the first order of a queue
abbrev pub first_data : Order → Data
first_data order = object (member (codes "amount") (whole order.amount) (named_members order))

-- the first order of a queue, if there is one, as one member more
abbrev pub with_first : Option Order → Members → Members
with_first None members = members
with_first (Some order) members = put (codes "first") (first_data order) members

-- what is shown of why a participant's orders wait
abbrev pub waiting_data : WaitingReading → Data
waiting_data reading = object (with_first reading.first (member (codes "headroom") (signed reading.headroom)
    (member (codes "held") (whole reading.held.count) (member (codes "held_value") (signed reading.held.value)
    (member (codes "queued") (whole reading.queued.count) (member (codes "queued_value") (signed reading.queued.value)
    (member (codes "short") (signed reading.short) no_members)))))))

-- 64 bits hold each number of cents in it
pub record WaitingFits (reading : WaitingReading) : Type 0 where
  pub headroom : FitsSigned w64 reading.headroom
  pub short : FitsSigned w64 reading.short
  pub queued : FitsSigned w64 reading.queued.value
  pub held : FitsSigned w64 reading.held.value
