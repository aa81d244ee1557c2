-- What each command gives. Its tests stand in their order; `choice` is the greatest one.
use Rattle.std.specs.Prelude.{ℕ, ◌+◌, ℤ, pos, neg_ℤ, ◌+ℤ◌, ◌-ℤ◌, int_lt, int_le, Bool, true, false, not, ◌&&◌, ◌==◌}
use Rattle.std.specs.Prelude.{nat_le, nat_lt, if◌then◌else◌, List, [], ◌∷◌, ◌++◌, length, map, filter, Option, Some}
use Rattle.std.specs.Prelude.{None, is_some, is_none, unwrap_or, Ok, Err}
use Rattle.std.specs.List.{list_any}
use Rattle.std.specs.Str.{bytes_eq}
use Rattle.std.specs.Ordering.{nat_cmp, is_lt, int_eq}
use Rattle.std.specs.Cmp.Lexicographic.{slice_cmp}
use Rattle.rtgs_money.specs.Date.{is_weekend}
use Rattle.rtgs_book.specs.declared.answer.Answer.TheVariants as answer
use Rattle.rtgs_book.specs.declared.answer.Known.TheVariants as known
use Rattle.rtgs_book.specs.declared.refusal.Refusal.TheVariants.{UnknownParticipant, UnknownReceiver, SameParty}
use Rattle.rtgs_book.specs.declared.refusal.Refusal.TheVariants.{ReferenceUsed, NotOpen, NoCover, QueueFull}
use Rattle.rtgs_book.specs.declared.refusal.Refusal.TheVariants.{NumbersUsedUp, UnknownOrder, CodeTaken, KeyTaken}
use Rattle.rtgs_book.specs.declared.refusal.Refusal.TheVariants.{TooManyParticipants, TotalTooLarge, WrongPhase}
use Rattle.rtgs_book.specs.declared.refusal.Refusal.TheVariants.{WrongDate, Weekend, NotQueued, Resolvable, Overdrawn}
use Rattle.rtgs_book.specs.declared.refusal.Refusal.TheVariants.{DueNotLater}
use Rattle.rtgs_book.specs.declared.limits.TheConstants.{MOST_PARTICIPANTS, LONGEST_QUEUE, LARGEST_NUMBER}
use Rattle.rtgs_book.specs.declared.limits.TheConstants.{LARGEST_TOTAL}
use Rattle.rtgs_book.specs.Books.{Book, Day, NewDay, Closed, Open, CutOff, Participant, Posting, Order, NewOrder}
use Rattle.rtgs_book.specs.Books.{OrderState, Queued, Held, Withdrawn, Rejected, is_closed, is_open, is_cut_off}
use Rattle.rtgs_book.specs.Books.{is_queued, is_held, is_waiting, is_withdrawn_state, is_empty}
use Rattle.rtgs_book.specs.Lookup.{has_code, codes_of, participant_of, is_participant, order_named, posting_named}
use Rattle.rtgs_book.specs.Balance.{balance, floor, total}
use Rattle.rtgs_book.specs.Queue.{queue, waiting}
use Rattle.rtgs_book.specs.Choice.{Choice, is_chosen, chosen}
use Rattle.rtgs_book.specs.Settle.{altered, in_state, settle, mark_of, today, next_mark}
use Rattle.rtgs_book.specs.Outcome.{Outcome, OwnReply, accepts, first_of}

abbrev pub repeated : OwnReply
repeated = Ok (answer.Repeated known.Nothing)

-- ---- participants

-- a comes before b
abbrev pub is_before : List ℕ → List ℕ → Bool
is_before a b = is_lt (slice_cmp nat_cmp a b)

-- the participant, at its place in code order
unfoldable pub with_participant : Book → Participant → Book
with_participant book new = record book {
  participants = filter (λ p. is_before p.code new.code) book.participants
      ++ new ∷ filter (λ p. not (is_before p.code new.code)) book.participants;
}

abbrev pub is_same_participant : Option Participant → List ℕ → List ℕ → Bool
is_same_participant None name key = false
is_same_participant (Some p) name key = bytes_eq p.name name && bytes_eq p.key key

unfoldable pub add : Book → List ℕ → List ℕ → List ℕ → Outcome
add book code name key =
    let found = participant_of book code in
    first_of book (
    (is_same_participant found name key, repeated)
    ∷ (is_some found, Err CodeTaken)
    ∷ (list_any (λ p. bytes_eq p.key key) book.participants, Err KeyTaken)
    ∷ (nat_le MOST_PARTICIPANTS (length book.participants), Err TooManyParticipants)
    ∷ []
    ) (accepts answer.Added (with_participant book (record { code = code; name = name; key = key; credit = 0 })))

unfoldable pub with_credit : Book → List ℕ → ℕ → Book
with_credit book code credit = record book {
  participants = map
      (λ p. if has_code code p then record p { credit = credit } else p) book.participants;
}

unfoldable pub set_credit : Book → List ℕ → ℕ → Outcome
set_credit book code credit =
    first_of book (
    (not (is_participant book code), Err UnknownParticipant)
    ∷ (not (is_closed book.day.phase) && int_lt (balance book code) (neg_ℤ (pos credit)), Err NoCover)
    ∷ []
    ) (accepts answer.CreditSet (with_credit book code credit))

-- ---- postings

abbrev pub is_same_posting : Option Posting → List ℕ → ℤ → Bool
is_same_posting None code cents = false
is_same_posting (Some posting) code cents = bytes_eq posting.code code && int_eq posting.cents cents

abbrev pub known_posting : Option Posting → OwnReply
known_posting None = repeated
known_posting (Some posting) = Ok (answer.Repeated (known.Posting posting.number))

unfoldable pub post : Book → List ℕ → List ℕ → ℤ → Outcome
post book code reference cents =
    let found = posting_named book reference in
    let number = length book.postings + 1 in
    let posting : Posting = record {
      number = number;
      code = code;
      reference = reference;
      cents = cents;
      date = book.day.date;
    } in
    first_of book (
    (not (is_participant book code), Err UnknownParticipant)
    ∷ (is_same_posting found code cents, known_posting found)
    ∷ (is_some found, Err ReferenceUsed)
    ∷ (nat_le LARGEST_NUMBER (length book.postings), Err NumbersUsedUp)
    ∷ (int_lt (pos 0) cents && int_lt (pos LARGEST_TOTAL) (total book +ℤ cents), Err TotalTooLarge)
    ∷ (int_lt cents (pos 0) && int_lt (balance book code +ℤ cents) (floor book code), Err NoCover)
    ∷ []
    ) (accepts (answer.Posted number) (record book { postings = book.postings ++ posting ∷ [] }))

-- ---- dates

-- no date is none of the dates
abbrev pub is_date : Option ℕ → ℕ → Bool
is_date None date = false
is_date (Some day) date = day == date

-- the day's date is this one
abbrev pub is_on : Book → ℕ → Bool
is_on book date = is_date book.day.date date

abbrev pub is_later : ℕ → Option ℕ → Bool
is_later date None = true
is_later date (Some last) = nat_lt last date

-- ---- due dates

-- the same due date, or both times none
abbrev pub is_same_due : Option ℕ → Option ℕ → Bool
is_same_due None None = true
is_same_due (Some one) (Some other) = one == other
is_same_due one other = false

-- there is a due date, and it is not later than the day's
abbrev pub is_due_too_early : Book → Option ℕ → Bool
is_due_too_early book None = false
is_due_too_early book (Some due) = not (is_later due book.day.date)

-- there is a due date, and it is a Saturday or a Sunday
abbrev pub is_due_on_a_weekend : Option ℕ → Bool
is_due_on_a_weekend None = false
is_due_on_a_weekend (Some due) = is_weekend due

-- there is a due date, and it is this one or earlier
abbrev pub is_due_by : ℕ → Option ℕ → Bool
is_due_by date None = false
is_due_by date (Some due) = nat_le due date

-- ---- orders

-- what was said of the order when it was sent
abbrev pub as_sent : Order → NewOrder
as_sent order = record {
  reference = order.reference;
  receiver = order.receiver;
  amount = order.amount;
  due = order.due;
}

-- the same is said, whatever the references
abbrev pub says_the_same : NewOrder → NewOrder → Bool
says_the_same one other =
    bytes_eq one.receiver other.receiver && (one.amount == other.amount) && is_same_due one.due other.due

-- there is an order, and it was sent with this content
abbrev pub is_same_order : Option Order → NewOrder → Bool
is_same_order None new_order = false
is_same_order (Some order) new_order = says_the_same (as_sent order) new_order

abbrev pub known_order : Option Order → OwnReply
known_order None = repeated
known_order (Some order) = Ok (answer.Repeated (known.Order order.number order.state))

-- nothing is queued before it, and the sender has cover
unfoldable pub settles_at_once : Book → List ℕ → ℕ → Bool
settles_at_once book sender amount =
    is_empty (queue book sender) && int_le (floor book sender) (balance book sender -ℤ pos amount)

-- so without a due date
abbrev pub settles_now : Book → List ℕ → NewOrder → Bool
settles_now book sender new_order = is_none new_order.due && settles_at_once book sender new_order.amount

abbrev pub has_number : ℕ → Order → Bool
has_number number order = order.number == number

-- how an order stands that is taken: held where it has a due date, and else queued
abbrev pub first_state : Option ℕ → OrderState
first_state None = Queued
first_state (Some due) = Held

-- what a sender says, as an order with this number and of this date
abbrev pub order_numbered : ℕ → List ℕ → NewOrder → ℕ → Order
order_numbered number sender new_order date = record {
  number = number;
  sender = sender;
  reference = new_order.reference;
  receiver = new_order.receiver;
  amount = new_order.amount;
  date = date;
  due = new_order.due;
  state = first_state new_order.due;
}

-- a new order that is taken: at the end of its sender's queue, or held until its due date
abbrev pub taken_order : Book → List ℕ → NewOrder → Order
taken_order book sender new_order =
    order_numbered (length book.orders + 1) sender new_order (unwrap_or new_order.due (today book))

abbrev pub with_order : Book → Order → Book
with_order book order = record book { orders = book.orders ++ order ∷ [] }

-- the outcome of an order that is taken without a due date
unfoldable pub takes : Book → Order → Outcome
takes book order =
    let queued = with_order book order in
    if settles_at_once book order.sender order.amount
    then accepts (answer.Settled order.number (next_mark book)) (settle queued (has_number order.number))
    else accepts (answer.Queued order.number (length (queue queued order.sender))) queued

-- the outcome of an order that is taken
abbrev pub takes_due : Book → Order → Option ℕ → Outcome
takes_due book order None = takes book order
takes_due book order (Some due) = accepts (answer.Held order.number due) (with_order book order)

unfoldable pub order : Book → List ℕ → NewOrder → Outcome
order book sender new_order =
    let found = order_named book sender new_order.reference in
    first_of book (
    (not (is_participant book sender), Err UnknownParticipant)
    ∷ (is_same_order found new_order, known_order found)
    ∷ (is_some found, Err ReferenceUsed)
    ∷ (not (is_open book.day.phase), Err NotOpen)
    ∷ (not (is_participant book new_order.receiver), Err UnknownReceiver)
    ∷ (bytes_eq sender new_order.receiver, Err SameParty)
    ∷ (is_due_too_early book new_order.due, Err DueNotLater)
    ∷ (is_due_on_a_weekend new_order.due, Err Weekend)
    ∷ (nat_le LARGEST_NUMBER (length book.orders), Err NumbersUsedUp)
    ∷ (not (settles_now book sender new_order) && nat_le LONGEST_QUEUE (length (waiting book sender)), Err QueueFull)
    ∷ []
    ) (takes_due book (taken_order book sender new_order) new_order.due)

abbrev pub is_withdrawn_order : Option Order → Bool
is_withdrawn_order None = false
is_withdrawn_order (Some order) = is_withdrawn_state order.state

abbrev pub is_waiting_order : Option Order → Bool
is_waiting_order None = false
is_waiting_order (Some order) = is_waiting order

abbrev pub number_of : Option Order → ℕ
number_of None = 0
number_of (Some order) = order.number

-- the orders that pass the test are changed so
abbrev pub with_altered : Book → (Order → Bool) → (Order → Order) → Book
with_altered book is_in change = record book { orders = map (altered is_in change) book.orders }

-- the orders that pass the test get this state
unfoldable pub with_state : Book → (Order → Bool) → OrderState → Book
with_state book is_in state = with_altered book is_in (in_state state)

unfoldable pub withdraw : Book → List ℕ → List ℕ → Outcome
withdraw book sender reference =
    let found = order_named book sender reference in
    first_of book (
    (not (is_participant book sender), Err UnknownParticipant)
    ∷ (is_none found, Err UnknownOrder)
    ∷ (is_withdrawn_order found, known_order found)
    ∷ (not (is_waiting_order found), Err NotQueued)
    ∷ []
    ) (accepts (answer.Withdrawn (number_of found)) (with_state book (has_number (number_of found)) Withdrawn))

-- ---- the day

-- the order is held, and due by this date
abbrev pub is_due : ℕ → Order → Bool
is_due date order = is_held order && is_due_by date order.due

-- the order in its queue, from this date on
abbrev pub entered : ℕ → Order → Order
entered date order = record order { state = Queued; date = date }

-- the order is held, and has this number
abbrev pub is_held_with : ℕ → Order → Bool
is_held_with number order = is_held order && has_number number order

-- the orders that pass the test enter their queues on this date
unfoldable pub let_in : Book → (Order → Bool) → ℕ → Book
let_in book is_in date = with_altered book is_in (entered date)

abbrev pub with_day : Book → Day → Book
with_day book day = record book { day = day }

-- the day is automatic, or is not, as this says
abbrev pub is_automatic_as : Bool → Day → Bool
is_automatic_as true day = day.automatic
is_automatic_as false day = not day.automatic

-- the day as it stands once it is opened
abbrev pub opened_day : NewDay → Day
opened_day new_day = record { date = Some new_day.date; phase = Open; automatic = new_day.automatic }

unfoldable pub open_day : Book → NewDay → Outcome
open_day book new_day =
    first_of book (
    (is_open book.day.phase && is_on book new_day.date && is_automatic_as new_day.automatic book.day, repeated)
    ∷ (not (is_closed book.day.phase), Err WrongPhase)
    ∷ (not (is_later new_day.date book.day.date), Err WrongDate)
    ∷ (is_weekend new_day.date, Err Weekend)
    ∷ []
    ) (accepts answer.Opened (with_day (let_in book (is_due new_day.date) new_day.date) (opened_day new_day)))

unfoldable pub cut_off : Book → ℕ → Outcome
cut_off book date =
    first_of book (
    (is_cut_off book.day.phase && is_on book date, repeated)
    ∷ (not (is_open book.day.phase), Err WrongPhase)
    ∷ (not (is_on book date), Err WrongDate)
    ∷ []
    ) (accepts answer.CutOffDone (with_day book (record book.day { phase = CutOff })))

unfoldable pub resolve : Book → Choice → Outcome
resolve book choice =
    let mark = mark_of book (chosen book choice) in
    first_of book ((is_closed book.day.phase, Err WrongPhase) ∷ []) (
    if is_empty (chosen book choice) then accepts answer.Nothing book
    else accepts (answer.Resolved mark.number mark.count mark.value) (settle book (is_chosen book choice))
    )

-- the participants below zero, in code order
unfoldable pub overdrawn : Book → List (List ℕ)
overdrawn book = filter (λ code. int_lt (balance book code) (pos 0)) (codes_of book)

abbrev pub first_code : List (List ℕ) → List ℕ
first_code [] = []
first_code (code ∷ codes) = code

unfoldable pub close_day : Book → Choice → ℕ → Outcome
close_day book choice date =
    first_of book (
    (is_closed book.day.phase && is_on book date, repeated)
    ∷ (not (is_cut_off book.day.phase), Err WrongPhase)
    ∷ (not (is_on book date), Err WrongDate)
    ∷ (not (is_empty (chosen book choice)), Err Resolvable)
    ∷ (not (is_empty (overdrawn book)), Err (Overdrawn (first_code (overdrawn book)) (length (overdrawn book))))
    ∷ []
    ) (accepts (answer.Closed (length (filter is_queued book.orders)))
    (with_day (with_state book is_queued Rejected) (record book.day { phase = Closed; automatic = false })))
