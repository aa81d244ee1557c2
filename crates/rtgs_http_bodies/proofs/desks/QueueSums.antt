-- What is shown of all queues: no float, and sums that fit 64 bits.
use Rattle.std.proofs.Common.{◌≡◌, ◌≤◌, ◌*◌, ℕ, zero, suc, ℤ, pos, negsuc, Bool, true, false, cond, List, []}
use Rattle.std.proofs.Common.{◌∷◌, length}
use Rattle.std.proofs.Common.{codes, map, filter, take, Option, Some, None, refl, arith, length-take}
use Rattle.std.specs.Prelude.{FitsSigned}
use Rattle.std.specs.Int.{w64}
use Rattle.std.specs.List.{AllByRecursion, flat_map}
use Rattle.std.specs.Str.{bytes_eq}
use Rattle.std.proofs.lemmas.Int.{fits_signed_from_abs}
use Rattle.std.proofs.lemmas.List.Sums.{sum_by-cons}
use Rattle.rtgs_lists.proofs.Lists.{all_append, all_filter}
use Rattle.serde_json.specs.Data.{Members, array, member, no_members, string}
use Rattle.serde_json.specs.View.{items_of}
use Rattle.serde_json.specs.Written.{has_float, items_have_float, members_have_float}
use Rattle.rtgs_money.specs.declared.amount.TheConstants.Amount as Amount
use Rattle.rtgs_money.specs.Amounts.{IsAmount}
use Rattle.rtgs_book.specs.declared.book.Book.{Book}
use Rattle.rtgs_book.specs.declared.day.Day.{Day}
use Rattle.rtgs_book.specs.declared.limits.TheConstants.{LONGEST_QUEUE}
use Rattle.rtgs_book.specs.declared.order.Order.{Order}
use Rattle.rtgs_book.specs.declared.queue_reading.QueueReading.{QueueReading}
use Rattle.rtgs_book.specs.declared.receiver_reading.ReceiverReading.{ReceiverReading}
use Rattle.rtgs_book.specs.Choice.{Choice}
use Rattle.rtgs_book.specs.Lookup.{codes_of}
use Rattle.rtgs_book.specs.Queue.{queue}
use Rattle.rtgs_book.specs.Ranges.{Fits}
use Rattle.rtgs_book.specs.Soundness.{IsSound}
use Rattle.rtgs_desk.specs.Payments.{paid_to}
use Rattle.rtgs_desk.specs.Queues.{queue_if_any, queue_readings, reading_of_queue, receiver_of, receivers_of}
use Rattle.rtgs_desk.specs.Readings.{value_of}
use Rattle.rtgs_http_bodies.specs.desks.Accounts.{phase_name, with_date}
use Rattle.rtgs_http_bodies.specs.desks.Queues.{QueueFits, QueuesFit, SumsFit, queue_entry, queue_members, queues_data}
use Rattle.rtgs_http_bodies.specs.desks.Queues.{receiver_data}
use Rattle.rtgs_http_bodies.specs.replies.Bodies.{signed}
use Rattle.rtgs_http_bodies.proofs.desks.QueueValues.{IsShort, queue_within}

-- ---- no float

signed_has_no_float : (z : ℤ) → has_float (signed z) ≡ false
signed_has_no_float (pos n) = refl
signed_has_no_float (negsuc n) = refl

receivers_have_no_float : (receivers : List ReceiverReading)
    → items_have_float (items_of (map receiver_data receivers)) ≡ false
receivers_have_no_float [] = refl
receivers_have_no_float (r ∷ rs) = rw (signed_has_no_float r.queued_value, receivers_have_no_float rs) refl

entry_has_no_float : (reading : QueueReading) → has_float (queue_entry reading) ≡ false
entry_has_no_float reading = rw (
  signed_has_no_float reading.headroom,
  signed_has_no_float reading.queued_value,
  receivers_have_no_float reading.receivers,
  signed_has_no_float reading.settling_value,
) refl

entries_have_no_float : (readings : List QueueReading) → items_have_float (items_of (map queue_entry readings)) ≡ false
entries_have_no_float [] = refl
entries_have_no_float (r ∷ rs) = rw (entry_has_no_float r, entries_have_no_float rs) refl

dated_have_no_float : (date : Option ℕ) (members : Members) → members_have_float members ≡ false
    → members_have_float (with_date date members) ≡ false
dated_have_no_float (Some date) members none = none
dated_have_no_float None members none = none

pub queues_have_no_float : (day : Day) (readings : List QueueReading) → has_float (queues_data day readings) ≡ false
queues_have_no_float day readings =
    let last : Members = member (codes "phase") (string (phase_name day.phase))
    (member (codes "queues") (array (items_of (map queue_entry readings))) no_members) in
    let none : members_have_float last ≡ false = rw (entries_have_no_float readings) refl in
    rw (dated_have_no_float day.date last none) refl

-- ---- sums that fit

-- few orders pay little together
few_pay_little : (orders : List Order) → AllByRecursion (λ (o : Order). IsAmount o.amount) orders
    → value_of orders ≤ Amount.MAX * length orders
few_pay_little [] h = omega arith
few_pay_little (o ∷ os) h =
    let rest = few_pay_little os h.1 in
    let one = h.0.1 in
    omega (arith, rest, one, sum_by-cons (λ (o : Order). o.amount) o os)

few_fit : (orders : List Order) → AllByRecursion (λ (o : Order). IsAmount o.amount) orders
    → length orders ≤ LONGEST_QUEUE → FitsSigned w64 (pos (value_of orders))
few_fit orders amounts few =
    fits_signed_from_abs w64 (pos (value_of orders)) (omega (arith, few_pay_little orders amounts, few))

-- the first orders, and those to one receiver, are no more
all_taken : (P : Order → Type 0) (n : ℕ) (orders : List Order) → AllByRecursion P orders
    → AllByRecursion P (take n orders)
all_taken P zero orders h = tt
all_taken P (suc n) [] h = tt
all_taken P (suc n) (o ∷ os) h = (h.0, all_taken P n os h.1)

filter_no_longer : (p : Order → Bool) (orders : List Order) → length (filter p orders) ≤ length orders
filter_no_longer p [] = omega arith
filter_no_longer p (o ∷ os) = by (p o) (filter_no_longer p os)
  where
    by : (b : Bool) → length (filter p os) ≤ length os
        → length (cond b (o ∷ filter p os) (filter p os)) ≤ length (o ∷ os)
    by true rest = omega (arith, rest)
    by false rest = omega (arith, rest)

receiver_fits : (code : List ℕ) (orders : List Order) → FitsSigned w64 (pos (value_of orders))
    → SumsFit (receiver_of code orders)
receiver_fits code [] fits = tt
receiver_fits code (o ∷ os) fits = (fits, tt)

receivers_fit : (codes : List (List ℕ)) (orders : List Order)
    → AllByRecursion (λ (o : Order). IsAmount o.amount) orders → length orders ≤ LONGEST_QUEUE
    → SumsFit (flat_map (λ code. receiver_of code (paid_to code orders)) codes)
receivers_fit [] orders amounts few = tt
receivers_fit (code ∷ codes) orders amounts few =
    let long = filter_no_longer (λ (o : Order). bytes_eq o.receiver code) orders in
    all_append (λ (r : ReceiverReading). FitsSigned w64 r.queued_value) (receiver_of code (paid_to code orders)) _
    (receiver_fits code (paid_to code orders) (few_fit (paid_to code orders)
    (all_filter (λ (o : Order). IsAmount o.amount) (λ (o : Order). bytes_eq o.receiver code) orders amounts)
    (omega (arith, long, few))))
    (receivers_fit codes orders amounts few)

queue_fits : (book : Book) (choice : Choice) (code : List ℕ) (orders : List Order)
    → AllByRecursion (λ (o : Order). IsAmount o.amount) orders → length orders ≤ LONGEST_QUEUE
    → QueuesFit (queue_if_any book choice code orders)
queue_fits book choice code [] amounts few = tt
queue_fits book choice code (o ∷ os) amounts few = (
  record {
    queued = few_fit (o ∷ os) amounts few;
    receivers = receivers_fit (codes_of book) (o ∷ os) amounts few;
    settling = few_fit (take (choice code) (o ∷ os))
        (all_taken (λ (o : Order). IsAmount o.amount) (choice code) (o ∷ os) amounts)
        (omega (arith, length-take (choice code) (o ∷ os), few));
  },
  tt,
)

queue_amounts : (book : Book) (code : List ℕ) → Fits book
    → AllByRecursion (λ (o : Order). IsAmount o.amount) (queue book code)
unfolding queue
queue_amounts book code fits = all_filter (λ (o : Order). IsAmount o.amount) _ book.orders fits.orders

each_fits : (book : Book) (choice : Choice) (codes : List (List ℕ)) → Fits book → AllByRecursion (IsShort book) codes
    → QueuesFit (flat_map (λ code. queue_if_any book choice code (queue book code)) codes)
each_fits book choice [] fits short = tt
each_fits book choice (code ∷ codes) fits short =
    let few = short.0 in
    all_append QueueFits (queue_if_any book choice code (queue book code)) _
    (queue_fits book choice code (queue book code) (queue_amounts book code fits)
    (omega (arith, queue_within book code, few)))
    (each_fits book choice codes fits short.1)

pub all_fit : (book : Book) (choice : Choice) → IsSound book → Fits book → QueuesFit (queue_readings book choice)
all_fit book choice sound fits = each_fits book choice (codes_of book) fits sound.queues.short
