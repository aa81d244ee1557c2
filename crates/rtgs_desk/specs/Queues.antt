-- What a desk says of all queues. The choice is the greatest one of the book: what a resolution would settle now.
use Rattle.std.specs.Prelude.{◌≡◌, ◌↔◌, ℕ, ℤ, pos, ◌-ℤ◌, ◌≤ℤ◌, int_lt, unsigned_abs, if◌then◌else◌, List, [], ◌∷◌}
use Rattle.std.specs.Prelude.{length, take, Result, Ok}
use Rattle.std.specs.List.{flat_map}
use Rattle.rtgs_book.specs.declared.book.Book.{Book}
use Rattle.rtgs_book.specs.declared.order.Order.{Order}
use Rattle.rtgs_book.specs.declared.participant.Participant.{Participant}
use Rattle.rtgs_book.specs.declared.queue_reading.QueueReading.{QueueReading}
use Rattle.rtgs_book.specs.declared.receiver_reading.ReceiverReading.{ReceiverReading}
use Rattle.rtgs_book.specs.declared.refusal.Refusal.{Refusal}
use Rattle.rtgs_book.specs.Balance.{balance, floor}
use Rattle.rtgs_book.specs.Choice.{Choice}
use Rattle.rtgs_book.specs.IntSum.{int_sum_by}
use Rattle.rtgs_book.specs.Lookup.{codes_of}
use Rattle.rtgs_book.specs.Queue.{queue}
use Rattle.rtgs_desk.specs.Payments.{paid_to}
use Rattle.rtgs_desk.specs.Readings.{reading_of, value_of}

-- how many orders pay the participant with this code, of which value; nothing where there is none
abbrev pub receiver_of : List ℕ → List Order → List ReceiverReading
receiver_of code [] = []
receiver_of code (order ∷ orders) = record {
  queued = length (order ∷ orders);
  queued_value = pos (value_of (order ∷ orders));
  to = code;
} ∷ []

-- that of each participant whom these orders pay, in the order of the codes
abbrev pub receivers_of : Book → List Order → List ReceiverReading
receivers_of book orders = flat_map (λ code. receiver_of code (paid_to code orders)) (codes_of book)

-- the balance less the floor
abbrev pub headroom : Book → List ℕ → ℤ
headroom book code = balance book code -ℤ floor book code

-- by how much the amount exceeds the headroom
abbrev pub short_of : ℤ → ℕ → ℕ
short_of headroom amount = if int_lt headroom (pos amount) then unsigned_abs (pos amount -ℤ headroom) else 0

-- what is said of the queue of the participant with this code; this is the first of its orders
abbrev pub reading_of_queue : Book → Choice → List ℕ → Order → List Order → QueueReading
reading_of_queue book choice code first orders = record {
  code = code;
  first = first;
  headroom = headroom book code;
  queued = length orders;
  queued_value = pos (value_of orders);
  receivers = receivers_of book orders;
  settling = length (take (choice code) orders);
  settling_value = pos (value_of (take (choice code) orders));
  short = short_of (headroom book code) first.amount;
}

-- nothing is said of an empty queue
abbrev pub queue_if_any : Book → Choice → List ℕ → List Order → List QueueReading
queue_if_any book choice code [] = []
queue_if_any book choice code (first ∷ rest) = reading_of_queue book choice code first (first ∷ rest) ∷ []

-- the queues that have orders, in the order of their participants' codes
abbrev pub queue_readings : Book → Choice → List QueueReading
queue_readings book choice = flat_map (λ code. queue_if_any book choice code (queue book code)) (codes_of book)

abbrev pub queues_answer : Book → Choice → Result (List QueueReading) Refusal
queues_answer book choice = Ok (queue_readings book choice)

-- ---- what the laws say of it

-- an account says the same of the queue
pub record AgreesWithAccount (book : Book) (reading : QueueReading) : Type 0 where
  pub queued : (participant : Participant) → reading.queued ≡ (reading_of book reading.code participant).queued
  pub value : (participant : Participant)
      → reading.queued_value ≡ (reading_of book reading.code participant).queued_value

-- the receivers get all orders of the queue, and all that they pay
pub record SharesTheQueue (reading : QueueReading) : Type 0 where
  pub queued : int_sum_by (λ (r : ReceiverReading). pos r.queued) reading.receivers ≡ pos reading.queued
  pub value : int_sum_by (λ (r : ReceiverReading). r.queued_value) reading.receivers ≡ reading.queued_value

-- it is short of nothing exactly where the headroom covers the first order
abbrev pub IsCoveredAsSaid : QueueReading → Type 0
IsCoveredAsSaid reading = (reading.short ≡ 0) ↔ (pos reading.first.amount ≤ℤ reading.headroom)
