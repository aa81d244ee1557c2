-- What is told of orders that wait, and of the whole desk, is small.
use Rattle.std.proofs.Common.{◌≡◌, ◌∙◌, ℕ, suc, ◌+◌, ◌*◌, ◌≤◌, ◌&&◌, ℤ, pos, neg_ℤ, ◌-ℤ◌, ◌≤ℤ◌, int_lt, nat_lt}
use Rattle.std.proofs.Common.{Bool, true, false, cond, List, [], ◌∷◌, length, filter, fold, Option, Some, None, Result, Ok, refl, sym, ap}
use Rattle.std.proofs.Common.{subst, arith}
use Rattle.std.specs.Prelude.{FitsSigned, slice_get}
use Rattle.std.specs.Int.{w64}
use Rattle.std.specs.List.{AllByRecursion}
use Rattle.std.specs.Str.{bytes_eq}
use Rattle.std.proofs.lemmas.Int.{ints, fits_signed_from_abs}
use Rattle.std.proofs.lemmas.List.Sums.{sum_by-cons}
use Rattle.rtgs_lists.proofs.Bools.{and_left, and_right, and_true}
use Rattle.rtgs_lists.proofs.Filters.{filter_shorter}
use Rattle.rtgs_lists.proofs.Finds.{all_found}
use Rattle.rtgs_lists.proofs.Lists.{all_filter}
use Rattle.rtgs_money.specs.declared.amount.TheConstants.Amount as Amount
use Rattle.rtgs_money.specs.declared.credit.TheConstants.Credit as Credit
use Rattle.rtgs_money.specs.Amounts.{IsAmount, IsCredit}
use Rattle.rtgs_book.specs.Balance.{balance, floor, total}
use Rattle.rtgs_book.specs.Books.{is_closed, is_held, is_held_state, is_queued, is_queued_state, is_waiting}
use Rattle.rtgs_book.specs.Books.{is_waiting_state}
use Rattle.rtgs_book.specs.declared.book.Book.{Book}
use Rattle.rtgs_book.specs.declared.limits.TheConstants.{LARGEST_BALANCE, LONGEST_QUEUE, MOST_QUEUED}
use Rattle.rtgs_book.specs.declared.order.Order.{Order}
use Rattle.rtgs_book.specs.declared.order_state.OrderState.{OrderState}
use Rattle.rtgs_book.specs.declared.order_state.OrderState.TheVariants.{Queued, Held, Settled, Withdrawn, Rejected}
use Rattle.rtgs_book.specs.declared.participant.Participant.{Participant}
use Rattle.rtgs_book.specs.declared.refusal.Refusal.{Refusal}
use Rattle.rtgs_book.specs.declared.waiting_reading.WaitingReading.{WaitingReading}
use Rattle.rtgs_book.specs.Laws.{BalancesFit}
use Rattle.rtgs_book.specs.Lookup.{codes_of, credit_of, has_code, participant_of}
use Rattle.rtgs_book.specs.Queue.{queue, waiting}
use Rattle.rtgs_book.specs.Ranges.{Fits}
use Rattle.rtgs_book.specs.Soundness.{IsSound}
use Rattle.rtgs_book.specs.Totals.{Within}
use Rattle.rtgs_desk.specs.Readings.{by_date, first_queued, headroom, held, held_among, if_known, placed, short_by}
use Rattle.rtgs_desk.specs.Readings.{status_of, value_of, waiting_answer, waiting_reading_of}
use Rattle.rtgs_http_bodies.specs.desks.Status.{StatusFits}
use Rattle.rtgs_http_bodies.specs.desks.Waiting.{WaitingFits}
use Rattle.rtgs_http_bodies.proofs.desks.QueueValues.{at_known, known_short, queue_bounded, taken_bounded, value_fits}
use Rattle.rtgs_http_bodies.proofs.desks.QueueValues.{IsShort}

-- ---- held orders

all_placed : (P : Order → Type 0) (sorted : List Order) (order : Order) → AllByRecursion P sorted → P order
    → AllByRecursion P (placed sorted order)
all_placed P [] order h p = (p, tt)
all_placed P (other ∷ others) order h p = by (nat_lt order.date other.date) (all_placed P others order h.1 p)
  where
    by : (b : Bool) → AllByRecursion P (placed others order)
        → AllByRecursion P (cond b (order ∷ other ∷ others) (other ∷ placed others order))
    by true rest = (p, h)
    by false rest = (h.0, rest)

all_put_in : (P : Order → Type 0) (sorted os : List Order) → AllByRecursion P sorted → AllByRecursion P os
    → AllByRecursion P (fold placed sorted os)
all_put_in P sorted [] h k = h
all_put_in P sorted (o ∷ os) h k = all_put_in P (placed sorted o) os (all_placed P sorted o h k.0) k.1

length_placed : (sorted : List Order) (order : Order) → length (placed sorted order) ≡ suc (length sorted)
length_placed [] order = refl
length_placed (other ∷ others) order = by (nat_lt order.date other.date) (length_placed others order)
  where
    by : (b : Bool) → length (placed others order) ≡ suc (length others)
        → length (cond b (order ∷ other ∷ others) (other ∷ placed others order)) ≡ suc (suc (length others))
    by true rest = refl
    by false rest = ap suc rest

length_put_in : (sorted os : List Order) → length (fold placed sorted os) ≡ length sorted + length os
length_put_in sorted [] = omega arith
length_put_in sorted (o ∷ os) =
    let rest = length_put_in (placed sorted o) os in let one = length_placed sorted o in omega arith

held_waits : (s : OrderState) → is_held_state s ≡ true → is_waiting_state s ≡ true
held_waits Queued e = refl
held_waits Held e = refl
held_waits (Settled mark) e = e
held_waits Withdrawn e = e
held_waits Rejected e = e

held_within : (book : Book) (code : List ℕ) → length (held book code) ≤ length (waiting book code)
unfolding held waiting
held_within book code =
    let same = length_put_in [] (held_among book.orders code) in
    let shorter = filter_shorter (λ (o : Order). is_held o && bytes_eq o.sender code)
    (λ (o : Order). is_waiting o && bytes_eq o.sender code)
    (λ o e. and_true (is_waiting o) (bytes_eq o.sender code)
    (held_waits o.state (and_left (is_held o) (bytes_eq o.sender code) e))
    (and_right (is_held o) (bytes_eq o.sender code) e)) book.orders in
    omega arith

-- orders pay at most the greatest amount each
bounded : (os : List Order) → AllByRecursion (λ (o : Order). IsAmount o.amount) os
    → value_of os ≤ Amount.MAX * length os
bounded [] h = omega arith
bounded (o ∷ os) h = omega (arith, bounded os h.1, h.0.1, sum_by-cons (λ (x : Order). x.amount) o os)

held_bounded : (book : Book) (code : List ℕ) → Fits book
    → value_of (held book code) ≤ Amount.MAX * length (held book code)
unfolding held
held_bounded book code fits = bounded (by_date (held_among book.orders code))
    (all_put_in (λ (o : Order). IsAmount o.amount) [] (held_among book.orders code) tt
    (all_filter (λ (o : Order). IsAmount o.amount) (λ (o : Order). is_held o && bytes_eq o.sender code) book.orders
    fits.orders))

held_value_fits : (book : Book) (code : List ℕ) → Fits book → IsShort book code
    → FitsSigned w64 (pos (value_of (held book code)))
held_value_fits book code fits short = fits_signed_from_abs w64 (pos (value_of (held book code)))
    (omega (arith, held_bounded book code fits, held_within book code, short))

-- ---- the headroom

low_floor : (book : Book) (code : List ℕ) (p : Participant) → participant_of book code ≡ Some p → IsCredit p.credit
    → (neg_ℤ (pos Credit.MAX) ≤ℤ floor book code) × (floor book code ≤ℤ pos 0)
unfolding floor credit_of
low_floor book code p e few = rw e (by (is_closed book.day.phase))
  where
    by : (b : Bool) → (neg_ℤ (pos Credit.MAX) ≤ℤ cond b (pos 0) (neg_ℤ (pos p.credit)))
        × (cond b (pos 0) (neg_ℤ (pos p.credit)) ≤ℤ pos 0)
    by true = (omega (arith, ints), omega (arith, ints))
    by false = (omega (arith, ints), omega (arith, ints))

abbrev SmallBalances : Type 0
SmallBalances = (book : Book) → IsSound book → Fits book → BalancesFit book

module _ (law : SmallBalances) (book : Book) (code : List ℕ) (p : Participant)
    (e : participant_of book code ≡ Some p) (sound : IsSound book) (fits : Fits book) where
  known_balance : Within LARGEST_BALANCE (balance book code)
  unfolding participant_of codes_of
  known_balance = at_known (λ c. Within LARGEST_BALANCE (balance book c)) code book.participants p e
      (law book sound fits)

  known_floor : (neg_ℤ (pos Credit.MAX) ≤ℤ floor book code) × (floor book code ≤ℤ pos 0)
  unfolding participant_of
  known_floor = low_floor book code p e
      (all_found (λ (q : Participant). IsCredit q.credit) (has_code code) book.participants p fits.credits e)

  headroom_small : Within (LARGEST_BALANCE + Credit.MAX) (headroom book code)
  headroom_small = let b = known_balance in let f = known_floor in (omega (arith, ints), omega (arith, ints))

  short_small : (first : Option Order) → ((o : Order) → first ≡ Some o → IsAmount o.amount)
      → Within (LARGEST_BALANCE + Credit.MAX + Amount.MAX) (short_by (headroom book code) first)
  short_small None few = (omega (arith, ints), omega (arith, ints))
  short_small (Some o) few = by (int_lt (headroom book code) (pos o.amount))
    where
      by : (b : Bool) → Within (LARGEST_BALANCE + Credit.MAX + Amount.MAX)
          (cond b (pos o.amount -ℤ headroom book code) (pos 0))
      by true = let h = headroom_small in let a = few o refl in (omega (arith, ints), omega (arith, ints))
      by false = (omega (arith, ints), omega (arith, ints))

  first_amount : (o : Order) → first_queued book code ≡ Some o → IsAmount o.amount
  unfolding queue
  first_amount o is = by (queue book code) (all_filter (λ (x : Order). IsAmount x.amount)
      (λ (x : Order). is_queued x && bytes_eq x.sender code) book.orders fits.orders) is
    where
      by : (os : List Order) → AllByRecursion (λ (x : Order). IsAmount x.amount) os → slice_get os 0 ≡ Some o
          → IsAmount o.amount
      by [] h g = absurd (cc)
      by (x ∷ xs) h g = let same : x ≡ o = cc in subst (λ (y : Order). IsAmount y.amount) same h.0

  reading_fits : WaitingFits (waiting_reading_of book code)
  reading_fits =
      let short = known_short book code p sound e in
      let room = headroom_small in
      let lacks = short_small (first_queued book code) first_amount in
      record {
        headroom = omega (arith, ints);
        short = omega (arith, ints);
        queued = value_fits book code fits short;
        held = held_value_fits book code fits short;
      }

pub waiting_fits : SmallBalances → (book : Book) (code : List ℕ) (reading : WaitingReading) → IsSound book → Fits book
    → waiting_answer book code ≡ Ok reading → WaitingFits reading
waiting_fits law book code reading sound fits answered = by (participant_of book code) refl answered
  where
    by : (o : Option Participant) → participant_of book code ≡ o
        → if_known {X = WaitingReading} o (λ participant. Ok (waiting_reading_of book code)) ≡ Ok reading
        → WaitingFits reading
    by None e answered = absurd (cc)
    by (Some p) e answered =
        let same : waiting_reading_of book code ≡ reading = cc in
        subst WaitingFits same (reading_fits law book code p e sound fits)

-- ---- the whole desk

queued_waits : (s : OrderState) → is_queued_state s ≡ true → is_waiting_state s ≡ true
queued_waits Queued e = refl
queued_waits Held e = refl
queued_waits (Settled mark) e = e
queued_waits Withdrawn e = e
queued_waits Rejected e = e

-- what some of the orders that wait pay together
some_fit : (book : Book) (p : Order → Bool) → ((o : Order) → p o ≡ true → is_waiting o ≡ true) → Fits book
    → length (filter is_waiting book.orders) ≤ MOST_QUEUED → FitsSigned w64 (pos (value_of (filter p book.orders)))
some_fit book p waits fits few = fits_signed_from_abs w64 (pos (value_of (filter p book.orders)))
    (omega (arith, taken_bounded p book.orders fits.orders, filter_shorter p is_waiting waits book.orders, few))

pub status_fits : ((book : Book) → IsSound book → Fits book → Within LARGEST_BALANCE (total book))
    → ((book : Book) → IsSound book → length (filter is_waiting book.orders) ≤ MOST_QUEUED)
    → (book : Book) → IsSound book → Fits book → StatusFits (status_of book)
status_fits small few book sound fits =
    let sum = small book sound fits in
    record {
      queued = some_fit book is_queued (λ o e. queued_waits o.state e) fits (few book sound);
      held = some_fit book is_held (λ o e. held_waits o.state e) fits (few book sound);
      sum = omega (arith, ints);
    }
