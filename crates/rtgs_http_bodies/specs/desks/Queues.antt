-- The values that the body of the reply on all queues spells. Keys stand in byte order.
use Rattle.std.specs.Prelude.{List, map, codes, FitsSigned}
use Rattle.std.specs.Int.{w64}
use Rattle.std.specs.List.{AllByRecursion}
use Rattle.serde_json.specs.Data.{Data, array, boolean, string, object, Members, member, no_members}
use Rattle.serde_json.specs.View.{items_of}
use Rattle.rtgs_book.specs.declared.day.Day.{Day}
use Rattle.rtgs_book.specs.declared.order.Order.{Order}
use Rattle.rtgs_book.specs.declared.queue_reading.QueueReading.{QueueReading}
use Rattle.rtgs_book.specs.declared.receiver_reading.ReceiverReading.{ReceiverReading}
use Rattle.rtgs_book.specs.Books.{is_automatic}
use Rattle.rtgs_http_bodies.specs.desks.Accounts.{phase_name, with_date}
use Rattle.rtgs_http_bodies.specs.replies.Bodies.{whole, signed}

-- the first order of a queue
abbrev pub first_data : Order → Data
first_data order = object (member (codes "amount") (whole order.amount) (member (codes "number") (whole order.number)
    (member (codes "reference") (string order.reference) (member (codes "to") (string order.receiver) no_members))))

-- what is shown of a receiver of a queue
abbrev pub receiver_data : ReceiverReading → Data
receiver_data reading = object (member (codes "queued") (whole reading.queued)
    (member (codes "queued_value") (signed reading.queued_value) (member (codes "to") (string reading.to) no_members)))

-- a queue, from how many orders it has on
abbrev pub queued_members : QueueReading → Members
queued_members reading = member (codes "queued") (whole reading.queued)
    (member (codes "queued_value") (signed reading.queued_value)
    (member (codes "receivers") (array (items_of (map receiver_data reading.receivers)))
    (member (codes "settling") (whole reading.settling)
    (member (codes "settling_value") (signed reading.settling_value)
    (member (codes "short") (whole reading.short) no_members)))))

-- what the operator is shown of one of all queues
abbrev pub queue_entry : QueueReading → Data
queue_entry reading = object (member (codes "code") (string reading.code)
    (member (codes "first") (first_data reading.first) (member (codes "headroom") (signed reading.headroom)
    (queued_members reading))))

-- the phase of the day, after its date once there was one, and the queues
abbrev pub queue_members : Day → List QueueReading → Members
queue_members day readings = with_date day.date (member (codes "phase") (string (phase_name day.phase))
    (member (codes "queues") (array (items_of (map queue_entry readings))) no_members))

-- what the operator is shown of all queues on this day
abbrev pub queues_data : Day → List QueueReading → Data
queues_data day readings =
    object (member (codes "automatic") (boolean (is_automatic day)) (queue_members day readings))

-- 64 bits hold what each receiver gets
abbrev pub SumsFit : List ReceiverReading → Type 0
SumsFit receivers = AllByRecursion (λ (r : ReceiverReading). FitsSigned w64 r.queued_value) receivers

-- 64 bits hold each sum that is shown of a queue
pub record QueueFits (reading : QueueReading) : Type 0 where
  pub queued : FitsSigned w64 reading.queued_value
  pub receivers : SumsFit reading.receivers
  pub settling : FitsSigned w64 reading.settling_value

abbrev pub QueuesFit : List QueueReading → Type 0
QueuesFit readings = AllByRecursion QueueFits readings
