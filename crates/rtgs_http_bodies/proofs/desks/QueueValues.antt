-- What the orders of a queue pay together.
use Rattle.std.proofs.Common.{◌≡◌, ℕ, ◌≤◌, ◌*◌, ◌&&◌, pos, Bool, true, false, cond, List, [], ◌∷◌, length, map, filter}
use Rattle.std.proofs.Common.{Option, Some, None, Result, Ok, refl, ap, subst, arith}
use Rattle.std.specs.Prelude.{FitsSigned}
use Rattle.std.specs.Int.{w64}
use Rattle.std.specs.List.{AllByRecursion, find}
use Rattle.std.specs.Str.{bytes_eq}
use Rattle.std.proofs.lemmas.Int.{fits_signed_from_abs}
use Rattle.std.proofs.lemmas.List.Sums.{sum_by-cons}
use Rattle.std.proofs.lemmas.Slice.Eq.{bytes_eq-Decides}
use Rattle.rtgs_lists.proofs.Filters.{filter_shorter}
use Rattle.rtgs_money.specs.declared.amount.TheConstants.Amount as Amount
use Rattle.rtgs_money.specs.Amounts.{IsAmount}
use Rattle.rtgs_book.specs.Balance.{balance}
use Rattle.rtgs_book.specs.Books.{is_queued, is_queued_state, is_waiting, is_waiting_state}
use Rattle.rtgs_book.specs.declared.book.Book.{Book}
use Rattle.rtgs_book.specs.declared.participant.Participant.{Participant}
use Rattle.rtgs_book.specs.declared.order.Order.{Order}
use Rattle.rtgs_book.specs.declared.order_state.OrderState.{OrderState}
use Rattle.rtgs_book.specs.declared.order_state.OrderState.TheVariants.{Queued, Held, Settled, Withdrawn, Rejected}
use Rattle.rtgs_book.specs.Lookup.{participant_of, codes_of, has_code}
use Rattle.rtgs_book.specs.Queue.{queue, waiting}
use Rattle.rtgs_book.specs.Ranges.{Fits}
use Rattle.rtgs_book.specs.Soundness.{IsSound}
use Rattle.rtgs_book.specs.declared.refusal.Refusal.{Refusal}
use Rattle.rtgs_book.specs.declared.limits.TheConstants.{LONGEST_QUEUE}
use Rattle.rtgs_desk.specs.Readings.{if_known, account_answer, reading_of, readings_of, value_of}
use Rattle.rtgs_book.specs.declared.account_reading.AccountReading.{AccountReading}
use Rattle.rtgs_http_bodies.specs.desks.Accounts.{QueuedValuesFit}

-- some of the orders pay at most the greatest amount each
pub taken_bounded : (is_in : Order → Bool) (orders : List Order)
    → AllByRecursion (λ (o : Order). IsAmount o.amount) orders
    → value_of (filter is_in orders) ≤ Amount.MAX * length (filter is_in orders)
taken_bounded is_in [] h = omega arith
taken_bounded is_in (order ∷ orders) h = by (is_in order) (taken_bounded is_in orders h.1)
  where
    by : (b : Bool) → value_of (filter is_in orders) ≤ Amount.MAX * length (filter is_in orders)
        → value_of (cond b (order ∷ filter is_in orders) (filter is_in orders)) ≤ Amount.MAX * length
        (cond b (order ∷ filter is_in orders) (filter is_in orders))
    by true rest = omega (arith, rest, h.0.1, sum_by-cons (λ (o : Order). o.amount) order (filter is_in orders))
    by false rest = rest

-- what holds of each participant's code holds of one that is looked up
pub at_known : (P : List ℕ → Type 0) (code : List ℕ) (participants : List Participant) (found : Participant)
    → find (has_code code) participants ≡ Some found
    → AllByRecursion P (map (λ (p : Participant). p.code) participants) → P code
at_known P code [] found e all = absurd (cc)
at_known P code (one ∷ others) found e all = by (bytes_eq one.code code) refl e
    (λ later. at_known P code others found later all.1)
  where
    by : (b : Bool) → bytes_eq one.code code ≡ b → cond b (Some one) (find (has_code code) others) ≡ Some found
        → (find (has_code code) others ≡ Some found → P code) → P code
    by true same e rest = subst P ((bytes_eq-Decides one.code code).0 same) all.0
    by false other e rest = rest e

queued_waits : (s : OrderState) → is_queued_state s ≡ true → is_waiting_state s ≡ true
queued_waits Queued e = refl
queued_waits Held e = refl
queued_waits (Settled mark) e = absurd (cc)
queued_waits Withdrawn e = absurd (cc)
queued_waits Rejected e = absurd (cc)

-- a queue is no longer than the orders of its sender that wait
pub queue_within : (book : Book) (code : List ℕ) → length (queue book code) ≤ length (waiting book code)
unfolding queue waiting
queue_within book code =
    filter_shorter (λ o. is_queued o && bytes_eq o.sender code) (λ o. is_waiting o && bytes_eq o.sender code)
    (λ o e. wider (is_queued o) (bytes_eq o.sender code) (is_waiting o) (queued_waits o.state) e) book.orders
  where
    wider : (a b c : Bool) → (a ≡ true → c ≡ true) → (a && b) ≡ true → (c && b) ≡ true
    wider true b c f e = rw (f refl) e
    wider false b c f e = absurd (cc)

abbrev pub IsShort : Book → List ℕ → Type 0
IsShort book code = length (waiting book code) ≤ LONGEST_QUEUE

pub known_short : (book : Book) (code : List ℕ) (found : Participant) → IsSound book
    → participant_of book code ≡ Some found → IsShort book code
unfolding participant_of codes_of
known_short book code found sound e = at_known (IsShort book) code book.participants found e sound.queues.short

pub queue_bounded : (book : Book) (code : List ℕ) → Fits book
    → value_of (queue book code) ≤ Amount.MAX * length (queue book code)
unfolding queue
queue_bounded book code fits = taken_bounded _ book.orders fits.orders

pub value_fits : (book : Book) (code : List ℕ) → Fits book → IsShort book code
    → FitsSigned w64 (pos (value_of (queue book code)))
value_fits book code fits short =
    fits_signed_from_abs w64 (pos (value_of (queue book code)))
    (omega (arith, queue_bounded book code fits, queue_within book code, short))

ok_is : (a b : AccountReading) (answered : Result AccountReading Refusal) → answered ≡ Ok a → answered ≡ Ok b → a ≡ b
ok_is a b answered one other = cc

pub queued_fits : (book : Book) (code : List ℕ) (reading : AccountReading) → IsSound book → Fits book
    → account_answer book code ≡ Ok reading → FitsSigned w64 reading.queued_value
queued_fits book code reading sound fits answered = by (participant_of book code) refl answered
  where
    by : (o : Option Participant) → participant_of book code ≡ o
        → if_known o (λ participant. Ok (record {
          participant = participant;
          balance = balance book code;
          day = book.day;
          queued = length (queue book code);
          queued_value = pos (value_of (queue book code));
        })) ≡ Ok reading → FitsSigned w64 reading.queued_value
    by None e answered = absurd (cc)
    by (Some found) e answered = subst (FitsSigned w64) (ap (λ (r : AccountReading). r.queued_value)
        (ok_is _ _ _ refl answered)) (value_fits book code fits (known_short book code found sound e))

-- so it is with each participant
each_fits : (book : Book) (participants : List Participant) → Fits book
    → AllByRecursion (IsShort book) (map (λ (p : Participant). p.code) participants)
    → QueuedValuesFit (map (λ (p : Participant). reading_of book p.code p) participants)
each_fits book [] fits short = tt
each_fits book (p ∷ ps) fits short = (value_fits book p.code fits short.0, each_fits book ps fits short.1)

pub all_fit : (book : Book) → IsSound book → Fits book → QueuedValuesFit (readings_of book)
unfolding codes_of
all_fit book sound fits = each_fits book book.participants fits sound.queues.short
