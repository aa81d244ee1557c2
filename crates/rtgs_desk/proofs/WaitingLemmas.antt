-- What a desk reads of the orders in memory, and what of the numbers that come next.
use Rattle.std.proofs.Common.{◌≡◌, ◌∙◌, ℕ, ◌+◌, ◌-ℤ◌, Bool, true, false, ◌&&◌, List, [], ◌∷◌, length, filter}
use Rattle.std.proofs.Common.{cond, refl, sym, ap, Option, Some, None, Ok, true≢false}
use Rattle.std.specs.Str.{bytes_eq}
use Rattle.std.specs.Prelude.{slice_get}
use Rattle.rtgs_lists.proofs.Bools.{and_left}
use Rattle.rtgs_book.specs.declared.account.Account.{Account}
use Rattle.rtgs_book.specs.declared.book.Book.{Book}
use Rattle.rtgs_book.specs.declared.order.Order.{Order}
use Rattle.rtgs_book.specs.declared.order_state.OrderState.{OrderState}
use Rattle.rtgs_book.specs.declared.order_state.OrderState.TheVariants.{Queued, Held, Settled, Withdrawn, Rejected}
use Rattle.rtgs_book.specs.declared.participant.Participant.{Participant}
use Rattle.rtgs_book.specs.declared.waiting_reading.WaitingReading.{WaitingReading}
use Rattle.rtgs_book.specs.Balance.{balance, floor, floor_at}
use Rattle.rtgs_book.specs.Books.{is_held, is_held_state, is_queued, is_queued_state, is_waiting, is_waiting_state}
use Rattle.rtgs_book.specs.Lookup.{credit_of, participant_of}
use Rattle.rtgs_book.specs.Queue.{queue}
use Rattle.rtgs_book.specs.declared.cores.cores.Core.{Core}
use Rattle.rtgs_book.specs.cores.Cores.{IsCoreOf, core_of}
use Rattle.rtgs_desk.specs.Readings.{Tells, account_known, by_date, headroom, held, held_among, if_known, short_by}
use Rattle.rtgs_desk.specs.Readings.{tally_of, waiting_answer, waiting_reading_of}

-- ---- the core

pub waiting_inside : (book : Book) (core : Core) → IsCoreOf book core → core.waiting ≡ filter is_waiting book.orders
unfolding core_of
waiting_inside book core is = ap (λ (c : Core). c.waiting) is.is

pub next_posting_inside : (book : Book) (core : Core) → IsCoreOf book core
    → core.next_posting ≡ length book.postings + 1
unfolding core_of
next_posting_inside book core is = ap (λ (c : Core). c.next_posting) is.is

pub next_order_inside : (book : Book) (core : Core) → IsCoreOf book core → core.next_order ≡ length book.orders + 1
unfolding core_of
next_order_inside book core is = ap (λ (c : Core). c.next_order) is.is

pub next_mark_inside : (book : Book) (core : Core) → IsCoreOf book core → core.next_mark ≡ length book.marks + 1
unfolding core_of
next_mark_inside book core is = ap (λ (c : Core). c.next_mark) is.is

-- ---- orders that wait

queued_waits : (s : OrderState) → is_queued_state s ≡ true → is_waiting_state s ≡ true
queued_waits Queued e = refl
queued_waits Held e = refl
queued_waits (Settled mark) e = e
queued_waits Withdrawn e = e
queued_waits Rejected e = e

held_waits : (s : OrderState) → is_held_state s ≡ true → is_waiting_state s ≡ true
held_waits Queued e = refl
held_waits Held e = refl
held_waits (Settled mark) e = e
held_waits Withdrawn e = e
held_waits Rejected e = e

-- what waits is taken of the orders that wait as of all
taken_waiting : (p : Order → Bool) → ((o : Order) → p o ≡ true → is_waiting o ≡ true) → (os : List Order)
    → filter p (filter is_waiting os) ≡ filter p os
taken_waiting p waits [] = refl
taken_waiting p waits (o ∷ os) = by (is_waiting o) (p o) refl (waits o) (taken_waiting p waits os)
  where
    by : (w b : Bool) → p o ≡ b → (b ≡ true → w ≡ true) → filter p (filter is_waiting os) ≡ filter p os
        → filter p (cond w (o ∷ filter is_waiting os) (filter is_waiting os)) ≡ cond b (o ∷ filter p os) (filter p os)
    by true true e wait rest = rw e (ap (λ l. o ∷ l) rest)
    by true false e wait rest = rw e rest
    by false true e wait rest = absurd (true≢false (sym (wait refl)))
    by false false e wait rest = rest

pub queued_inside : (book : Book) (core : Core) → IsCoreOf book core
    → filter is_queued core.waiting ≡ filter is_queued book.orders
queued_inside book core is = ap (filter is_queued) (waiting_inside book core is)
    ∙ taken_waiting is_queued (λ o e. queued_waits o.state e) book.orders

pub all_held_inside : (book : Book) (core : Core) → IsCoreOf book core
    → filter is_held core.waiting ≡ filter is_held book.orders
all_held_inside book core is = ap (filter is_held) (waiting_inside book core is)
    ∙ taken_waiting is_held (λ o e. held_waits o.state e) book.orders

pub held_inside : (book : Book) (core : Core) (sender : List ℕ) → IsCoreOf book core
    → by_date (held_among core.waiting sender) ≡ held book sender
unfolding held
held_inside book core sender is = ap (λ (os : List Order). by_date (held_among os sender)) (waiting_inside book core is)
    ∙ ap by_date (taken_waiting (λ (o : Order). is_held o && bytes_eq o.sender sender)
    (λ o e. held_waits o.state (and_left (is_held o) (bytes_eq o.sender sender) e)) book.orders)

-- ---- why orders wait

-- the floor of a participant that is known
known_floor : (book : Book) (code : List ℕ) (p : Participant) → participant_of book code ≡ Some p
    → floor_at book.day.phase p.credit ≡ floor book code
unfolding floor credit_of
known_floor book code p e = rw e refl

-- this is answered of an account, where the floor is the one under the account's credit limit
pub answered_waiting : (book : Book) (code : List ℕ) (a : Account) (reading : WaitingReading)
    → account_known book code ≡ Ok a
    → reading ≡ record {
      first = slice_get (queue book code) 0;
      headroom = a.balance -ℤ floor_at book.day.phase a.participant.credit;
      short = short_by (a.balance -ℤ floor_at book.day.phase a.participant.credit) (slice_get (queue book code) 0);
      queued = tally_of (queue book code);
      held = tally_of (held book code);
    }
    → Tells {X = WaitingReading} {Y = WaitingReading} (λ reading. reading) (waiting_answer book code) (Ok reading)
answered_waiting book code a reading known is = by (participant_of book code) refl known
  where
    by : (found : Option Participant) → participant_of book code ≡ found
        → if_known {X = Account} found (λ p. Ok (record { participant = p; balance = balance book code })) ≡ Ok a
        → Tells {X = WaitingReading} {Y = WaitingReading} (λ reading. reading)
        (if_known {X = WaitingReading} found (λ p. Ok (waiting_reading_of book code))) (Ok reading)
    by None e k = absurd (cc)
    by (Some p) e k =
        let same : a ≡ record { participant = p; balance = balance book code } = cc in
        let room : a.balance -ℤ floor_at book.day.phase a.participant.credit ≡ headroom book code =
        (λ j. (same j).balance -ℤ floor_at book.day.phase (same j).participant.credit)
        ∙ ap (λ f. balance book code -ℤ f) (known_floor book code p e) in
        is ∙ ap (λ h. record {
          first = slice_get (queue book code) 0;
          headroom = h;
          short = short_by h (slice_get (queue book code) 0);
          queued = tally_of (queue book code);
          held = tally_of (held book code);
        }) room
