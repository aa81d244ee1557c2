-- What an order gives, test by test, and its change.
use Rattle.std.proofs.Common.{◌≡◌, ℕ, ◌+◌, ◌≤◌, ℤ, pos, ◌+ℤ◌, ◌-ℤ◌, Bool, true, false, not, ◌&&◌, if◌then◌else◌, nat_le}
use Rattle.std.proofs.Common.{List, [], ◌∷◌, ◌++◌, map, filter, length, find, Option, unwrap_or, is_some, is_none}
use Rattle.std.proofs.Common.{IsTrue}
use Rattle.std.proofs.Common.{int_le, Ok, Err, Some, None, refl, sym, ap, subst, ◌∙◌, true≢false, length-append}
use Rattle.std.proofs.Common.{zero-add, arith, inl, inr}
use Rattle.std.proofs.lemmas.Int.{ints}
use Rattle.std.proofs.lemmas.Bool.Decides.{nat_tests}
use Rattle.std.proofs.lemmas.List.{length-map, map-append}
use Rattle.std.proofs.lemmas.List.Elements.{filter-append}
use Rattle.std.specs.List.{AllByRecursion, range_with_len}
use Rattle.std.specs.Str.{bytes_eq}
use Rattle.std.specs.Cmp.Lexicographic.{bytes_decides}
use Rattle.std.specs.Ordering.{int_eq}
use Rattle.rtgs_money.specs.Amounts.{IsAmount}
use Rattle.rtgs_book.specs.declared.command.Command.TheVariants as command
use Rattle.rtgs_book.specs.declared.answer.Answer.TheVariants as answer
use Rattle.rtgs_book.specs.declared.answer.Known.TheVariants as known
use Rattle.rtgs_book.specs.declared.refusal.Refusal.TheVariants.{UnknownParticipant, ReferenceUsed, NotOpen}
use Rattle.rtgs_book.specs.declared.refusal.Refusal.TheVariants.{UnknownReceiver, SameParty, NumbersUsedUp, QueueFull}
use Rattle.rtgs_book.specs.declared.refusal.Refusal.{Refusal}
use Rattle.rtgs_book.specs.Session.{is_judged}
use Rattle.rtgs_book.specs.declared.change.RowChange.{RowChange}
use Rattle.rtgs_book.specs.declared.change.RowChange.TheVariants.{AddOrder, AddMark, SetBalance}
use Rattle.rtgs_book.specs.declared.book.Book.{Book}
use Rattle.rtgs_book.specs.declared.new_order.NewOrder.{NewOrder}
use Rattle.rtgs_book.specs.declared.order.Order.{Order}
use Rattle.rtgs_book.specs.declared.order_state.OrderState.{OrderState}
use Rattle.rtgs_book.specs.declared.order_state.OrderState.TheVariants.{Queued, Held as HeldState, Settled, Withdrawn}
use Rattle.rtgs_book.specs.declared.order_state.OrderState.TheVariants.{Rejected}
use Rattle.rtgs_book.specs.declared.phase.Phase.{Phase}
use Rattle.rtgs_book.specs.declared.phase.Phase.TheVariants.{Closed, Open, CutOff}
use Rattle.rtgs_book.specs.Balance.{balance, gain, floor_at}
use Rattle.rtgs_book.specs.Books.{is_open, is_closed, is_queued, is_queued_state, is_held_state, is_waiting, is_settled}
use Rattle.rtgs_book.specs.Books.{is_settled_state}
use Rattle.rtgs_book.specs.Books.{is_empty}
use Rattle.rtgs_book.specs.Changes.{Leads, balance_set, or_else}
use Rattle.rtgs_book.specs.Commands.{order, takes, takes_due, taken_order, order_numbered, first_state, with_order}
use Rattle.rtgs_book.specs.Commands.{as_sent, says_the_same, settles_at_once, settles_now}
use Rattle.rtgs_book.specs.Commands.{has_number, is_due_too_early, is_due_on_a_weekend}
use Rattle.rtgs_book.specs.Lookup.{codes_of, is_participant, order_named}
use Rattle.rtgs_book.specs.Outcome.{first_of}
use Rattle.rtgs_book.specs.Queue.{queue, waiting, queued_numbers}
use Rattle.rtgs_records.specs.queues.Orders.{numbers_among}
use Rattle.rtgs_lists.proofs.Bools.{and_true}
use Rattle.rtgs_book.specs.Settle.{restated, settle, mark_of, next_mark, today}
use Rattle.rtgs_book.specs.Soundness.{OrdersAreNumbered}
use Rattle.rtgs_book.specs.Step.{OwnStep}
use Rattle.rtgs_book.specs.declared.account.Account.{Account}
use Rattle.rtgs_book.specs.declared.limits.TheConstants.{LONGEST_QUEUE, LARGEST_NUMBER}
use Rattle.rtgs_records.specs.accounts.Accounts.{code_of, is_of, with_balance}
use Rattle.rtgs_ledger.specs.Kept.{WouldAct}
use Rattle.rtgs_ledger.specs.Kinds.{answers_an_order}
use Rattle.rtgs_ledger.specs.Ordering.{IsTaken, IsDueRefused, is_too_early, waiting_answer}
use Rattle.rtgs_ledger.proofs.Balances.{other_int, moved, all_moved, all_same, balance-with_order}
use Rattle.rtgs_ledger.proofs.Kept.{found_balance, found_is, is_known, balance_at, floor_at as floor_is, prepared_done}
use Rattle.rtgs_book.specs.declared.cores.cores.Core.{Core}
use Rattle.rtgs_records.specs.declared.records.Records.{Records}
use Rattle.rtgs_ledger.proofs.Whole.{Held, IsKept, IsOf, IsPrepared, Whole, book_of, held_of, whole}
use Rattle.rtgs_lists.proofs.Filters.{filter_nothing}
use Rattle.rtgs_lists.proofs.Lists.{all_of}
use Rattle.rtgs_lists.proofs.Numbers.{eq_self, int_eq_self}

pub too_early_is : (book : Book) (due : Option ℕ) (b : Bool) → is_too_early book.day.date due ≡ b
    → is_due_too_early book due ≡ b
too_early_is book None b e = e
too_early_is book (Some due) b e = e

module _ (book : Book) (sender : List ℕ) (new_order : NewOrder) where
  pub unknown : is_participant book sender ≡ false → OwnStep book (command.Order sender new_order)
      (Err UnknownParticipant) book
  unfolding order first_of
  unknown e = rw e refl

  pub repeats : is_participant book sender ≡ true → (o : Order) → order_named book sender new_order.reference ≡ Some o
      → says_the_same (as_sent o) new_order ≡ true
      → OwnStep book (command.Order sender new_order) (Ok (answer.Repeated (known.Order o.number
      o.state)))
      book
  unfolding order first_of
  repeats e o found same = rw (e, found, same) refl

  pub reference_used : is_participant book sender ≡ true → (o : Order)
      → order_named book sender new_order.reference ≡ Some o
      → says_the_same (as_sent o) new_order ≡ false
      → OwnStep book (command.Order sender new_order) (Err ReferenceUsed) book
  unfolding order first_of
  reference_used e o found other = rw (e, found, other) refl

  module _ (known : is_participant book sender ≡ true)
      (unused : order_named book sender new_order.reference ≡ None) where
    pub not_open : is_open book.day.phase ≡ false → OwnStep book (command.Order sender new_order)
        (Err NotOpen) book
    unfolding order first_of
    not_open shut = rw (known, unused, shut) refl

    module _ (opened : is_open book.day.phase ≡ true) where
      pub unknown_receiver : is_participant book new_order.receiver ≡ false
          → OwnStep book (command.Order sender new_order) (Err UnknownReceiver) book
      unfolding order first_of
      unknown_receiver e = rw (known, unused, opened, e) refl

      module _ (there : is_participant book new_order.receiver ≡ true) where
        pub same_party : bytes_eq sender new_order.receiver ≡ true → OwnStep book (command.Order sender new_order)
            (Err SameParty) book
        unfolding order first_of
        same_party same = rw (known, unused, opened, there, same) refl

        module _ (apart : bytes_eq sender new_order.receiver ≡ false) where
          pub due_refused : (refusal : Refusal) → IsDueRefused book.day.date new_order.due refusal
              → OwnStep book (command.Order sender new_order) (Err refusal) book
              × (is_judged (Err refusal) ≡ true)
          unfolding order first_of
          due_refused refusal (inl early) =
              let is_early = too_early_is book new_order.due true early.1 in
              (rw (early.0, known, unused, opened, there, apart, is_early) refl, rw early.0 refl)
          due_refused refusal (inr free) =
              let later = too_early_is book new_order.due false free.1 in
              (rw (free.0, known, unused, opened, there, apart, later, free.2) refl, rw free.0 refl)

          module _ (later : is_due_too_early book new_order.due ≡ false) where
            module _ (working : is_due_on_a_weekend new_order.due ≡ false) where
              pub numbers_used_up : nat_le LARGEST_NUMBER (length book.orders) ≡ true
                  → OwnStep book (command.Order sender new_order) (Err NumbersUsedUp) book
              unfolding order first_of
              numbers_used_up many = rw (known, unused, opened, there, apart, later, working, many) refl

              pub queue_full : nat_le LARGEST_NUMBER (length book.orders) ≡ false
                  → settles_now book sender new_order ≡ false
                  → nat_le LONGEST_QUEUE (length (waiting book sender)) ≡ true
                  → OwnStep book (command.Order sender new_order) (Err QueueFull) book
              unfolding order first_of
              queue_full few waits full =
                  rw (known, unused, opened, there, apart, later, working, few, waits, full) refl

              taken : nat_le LARGEST_NUMBER (length book.orders) ≡ false
                  → (not (settles_now book sender new_order)
                  && nat_le LONGEST_QUEUE (length (waiting book sender))) ≡ false
                  → order book sender new_order ≡ takes_due book (taken_order book sender new_order) new_order.due
              unfolding order first_of
              taken few room = rw (known, unused, opened, there, apart, later, working, few, room) refl

              pub is_taken : IsAmount new_order.amount → nat_le LARGEST_NUMBER (length book.orders) ≡ false
                  → (not (settles_now book sender new_order)
                  && nat_le LONGEST_QUEUE (length (waiting book sender))) ≡ false
                  → IsTaken book (taken_order book sender new_order)
              is_taken fits few room = record {
                next = refl;
                unused = unused;
                fits = fits;
                apart = apart;
                taken = taken few room;
              }

module _ (book : Book) (o : Order) (taken : IsTaken book o) where
  taken_at : (settles : Bool) → settles_at_once book o.sender o.amount ≡ settles → o.due ≡ None
      → WouldAct book (command.Order o.sender (as_sent o))
  unfolding takes
  taken_at true settles direct = (
    answer.Settled o.number (next_mark book),
    settle (with_order book o) (has_number o.number),
    sym (taken.taken ∙ ap (takes_due book o) direct ∙ rw settles refl),
    refl,
  )
  taken_at false waits direct = (
    answer.Queued o.number (length (queue (with_order book o) o.sender)),
    with_order book o,
    sym (taken.taken ∙ ap (takes_due book o) direct ∙ rw waits refl),
    refl,
  )

  -- an order that is taken would act
  pub taken_acts : WouldAct book (command.Order o.sender (as_sent o))
  taken_acts = by o.due refl
    where
      by : (due : Option ℕ) → o.due ≡ due
          → WouldAct book (command.Order o.sender (as_sent o))
      by None direct = taken_at (settles_at_once book o.sender o.amount) refl direct
      by (Some due) later = (
        answer.Held o.number due,
        with_order book o,
        sym (taken.taken ∙ ap (takes_due book o) later),
        refl,
      )

-- ---- its sender's queue, and all of its sender's orders that wait

first_unsettled : (due : Option ℕ) → is_settled_state (first_state due) ≡ false
first_unsettled None = refl
first_unsettled (Some due) = refl

-- those that are queued and those that are held
pub waiting_count : (sender : List ℕ) (os : List Order)
    → length (numbers_among is_queued_state (filter is_waiting os) sender)
    + length (numbers_among is_held_state (filter is_waiting os) sender)
    ≡ length (filter (λ o. is_waiting o && bytes_eq o.sender sender) os)
waiting_count sender [] = refl
waiting_count sender (o ∷ os) = by o.state refl (bytes_eq o.sender sender) refl (waiting_count sender os)
  where
    by : (s : OrderState) → o.state ≡ s → (b : Bool) → bytes_eq o.sender sender ≡ b
        → length (numbers_among is_queued_state (filter is_waiting os) sender)
        + length (numbers_among is_held_state (filter is_waiting os) sender)
        ≡ length (filter (λ o. is_waiting o && bytes_eq o.sender sender) os)
        → length (numbers_among is_queued_state (filter is_waiting (o ∷ os)) sender)
        + length (numbers_among is_held_state (filter is_waiting (o ∷ os)) sender)
        ≡ length (filter (λ o. is_waiting o && bytes_eq o.sender sender) (o ∷ os))
    by Queued e true f rest = rw (e, f) (omega (arith, rest))
    by Queued e false f rest = rw (e, f) rest
    by HeldState e true f rest = rw (e, f) (omega (arith, rest))
    by HeldState e false f rest = rw (e, f) rest
    by (Settled mark) e b f rest = rw e rest
    by Withdrawn e b f rest = rw e rest
    by Rejected e b f rest = rw e rest

pub queued_length : (book : Book) (sender : List ℕ) → length (queued_numbers book.orders sender)
    ≡ length (queue book sender)
unfolding queue
queued_length book sender = length-map (filter (λ o. is_queued o && bytes_eq o.sender sender) book.orders)
    (λ (o : Order). o.number)

pub queued_none : (book : Book) (sender : List ℕ) → is_empty (queued_numbers book.orders sender)
    ≡ is_empty (queue book sender)
unfolding queue
queued_none book sender = by (filter (λ o. is_queued o && bytes_eq o.sender sender) book.orders)
  where
    by : (os : List Order) → is_empty (map (λ (o : Order). o.number) os) ≡ is_empty os
    by [] = refl
    by (o ∷ os) = refl

pub waiting_all : (book : Book) (os : List Order) (sender : List ℕ) → os ≡ filter is_waiting book.orders
    → length (numbers_among is_queued_state os sender) + length (numbers_among is_held_state os sender)
    ≡ length (waiting book sender)
unfolding waiting
waiting_all book os sender e = ap (λ (xs : List Order). length (numbers_among is_queued_state xs sender)
    + length (numbers_among is_held_state xs sender)) e ∙ waiting_count sender book.orders

pub none_is : (due : Option ℕ) → is_none due ≡ true → due ≡ None
none_is None e = refl
none_is (Some due) e = absurd (true≢false (sym e))

pub answers : (number place : ℕ) (due : Option ℕ) → answers_an_order (waiting_answer number place due) ≡ true
answers number place None = refl
answers number place (Some due) = refl

-- ---- what the records say

pub open_not_closed : (p : Phase) → is_open p ≡ true → is_closed p ≡ false
open_not_closed Closed e = absurd (true≢false (sym e))
open_not_closed Open e = refl
open_not_closed CutOff e = refl

pub is_opened : (b : Bool) (day : Option ℕ) (date : ℕ) → (if b then day else None) ≡ Some date → b ≡ true
is_opened true day date e = refl
is_opened false day date e = absurd (let f : None ≡ Some date = e in cc)

pub is_day : (b : Bool) (day : Option ℕ) (date : ℕ) → (if b then day else None) ≡ Some date → day ≡ Some date
is_day true day date e = e
is_day false day date e = absurd (let f : None ≡ Some date = e in cc)

pub is_shut : (b : Bool) (day : Option ℕ) → (if b then day else None) ≡ None → (b ≡ true → IsTrue (is_some day))
    → b ≡ false
is_shut true None e dated = absurd (true≢false (sym (dated refl)))
is_shut true (Some date) e dated = absurd (let f : Some date ≡ None = e in cc)
is_shut false day e dated = refl

module _ (r : Whole) (kept : IsKept (held_of r)) where
  pub shut_now : (if is_open r.day.phase then r.day.date else None) ≡ None → is_open r.day.phase ≡ false
  shut_now e = is_shut (is_open r.day.phase) r.day.date e (λ opened. let s = kept.sound
      in s.dates.dated (open_not_closed r.day.phase opened))

  pub open_now : (date : ℕ) → (if is_open r.day.phase then r.day.date else None) ≡ Some date
      → is_open r.day.phase ≡ true
  open_now date e = is_opened (is_open r.day.phase) r.day.date date e

  pub is_today : (date : ℕ) → (if is_open r.day.phase then r.day.date else None) ≡ Some date → r.day.date ≡ Some date
  is_today date e = is_day (is_open r.day.phase) r.day.date date e

  pub settles_is : (sender : List ℕ) (sending : Account) (amount : ℕ)
      → find (is_of sender) r.accounts.accounts ≡ Some sending
      → settles_at_once (book_of r) sender amount ≡ (is_empty (queued_numbers r.orders (code_of sending)) &&
      int_le (floor_at r.day.phase sending.participant.credit) (sending.balance -ℤ pos amount))
  unfolding settles_at_once
  settles_is sender sending amount from =
      rw (
        floor_is r kept sender sending from,
        ← balance_at r kept sender sending from,
        found_is sender
            r.accounts.accounts sending from,
        queued_none (book_of r) sender,
      ) refl

  -- the next order, where no test but the last refuses it
  pub taken_now : (sender : List ℕ) (new_order : NewOrder) (date : ℕ) (sending receiving : Account)
      → find (is_of sender) r.accounts.accounts ≡ Some sending
      → order_named (book_of r) sender new_order.reference ≡ None
      → (if is_open r.day.phase then r.day.date else None) ≡ Some date
      → find (is_of new_order.receiver) r.accounts.accounts ≡ Some receiving
      → bytes_eq sender new_order.receiver ≡ false
      → is_due_too_early (book_of r) new_order.due ≡ false → is_due_on_a_weekend new_order.due ≡ false
      → nat_le LARGEST_NUMBER (length r.orders) ≡ false → IsAmount new_order.amount
      → (not (settles_now (book_of r) sender new_order)
      && nat_le LONGEST_QUEUE (length (waiting (book_of r) sender))) ≡ false
      → IsTaken (book_of r) (order_numbered (length r.orders + 1) sender new_order (unwrap_or new_order.due date))
  taken_now sender new_order date sending receiving from unused day to apart later working few fits room =
      let today_is : today (book_of r) ≡ date = ap (λ (d : Option ℕ). unwrap_or d 0)
      (is_day (is_open r.day.phase) r.day.date date day) in
      subst (IsTaken (book_of r))
      (λ i. order_numbered (length r.orders + 1) sender new_order (unwrap_or new_order.due (today_is i)))
      (is_taken (book_of r) sender new_order (is_known r kept sender sending from) unused
      (open_now date day) (is_known r kept new_order.receiver receiving to) apart later working fits few room)

-- ---- the book after it

-- numbers that rise from one on come before the number after them
later_number : (number k : ℕ) (os : List Order) → map (λ (o : Order). o.number) os ≡ range_with_len k (length os)
    → k + length os ≤ number → AllByRecursion (λ o. has_number number o ≡ false) os
later_number number k [] e le = tt
later_number number k (o ∷ os) e le =
    let first : o.number ≡ k = cc in
    let rest : map (λ (o : Order). o.number) os ≡ range_with_len (k + 1) (length os) = cc in
    (grind (arith, nat_tests), later_number number (k + 1) os rest (omega arith))

map_none : (is_in : Order → Bool) (state : OrderState) (os : List Order) → AllByRecursion (λ o. is_in o ≡ false) os
    → map (restated is_in state) os ≡ os
map_none is_in state [] h = refl
map_none is_in state (o ∷ os) h = rw h.0 (ap (λ xs. o ∷ xs) (map_none is_in state os h.1))

-- the order with a mark
abbrev pub settled_order : Book → Order → Order
settled_order book o = record o { state = Settled (next_mark book) }

abbrev pub with_settled : Book → Order → Book
with_settled book o = record book {
  orders = book.orders ++ settled_order book o ∷ [];
  marks = book.marks ++ mark_of book (o ∷ []) ∷ [];
}

settle_new : (book : Book) → OrdersAreNumbered book → (o : Order) → o.number ≡ length book.orders + 1
    → settle (with_order book o) (has_number o.number) ≡ with_settled book o
unfolding settle mark_of
settle_new book numbered o next =
    let others = later_number o.number 1 book.orders (numbered.0
    ∙ ap (range_with_len 1) (length-map book.orders (λ (o : Order). o.number))) (omega arith) in
    rw (
      filter-append (has_number o.number) book.orders (o ∷ []),
      map-append (restated (has_number o.number) (Settled (next_mark book))) book.orders (o ∷ []),
      filter_nothing (has_number o.number) book.orders others,
      map_none (has_number o.number) (Settled (next_mark book)) book.orders others,
      eq_self o.number,
    ) refl

pub one_mark : (book : Book) (o : Order) → o ≡ taken_order book o.sender (as_sent o)
    → o.due ≡ None
    → mark_of book (o ∷ []) ≡ record { number = length book.marks + 1; date = o.date; count = 1; value = pos o.amount }
unfolding mark_of
one_mark book o next direct = λ i. record {
  number = length book.marks + 1;
  date = (sym (ap (λ d. unwrap_or d (today book)) direct) ∙ ap (λ (x : Order). x.date) (sym next)) i;
  count = 1;
  value = pos (zero-add o.amount i);
}

-- ---- its change

differs : (old new by : ℤ) → new ≡ old +ℤ by → (by ≡ pos 0 → ⊥) → int_eq old new ≡ false
differs old new by e apart = other_int old new (λ same. apart (omega (arith, ints)))

module _ (held : Held) (kept : IsKept held) (o : Order) (taken : IsTaken held.content o) where
  number : o.number ≡ length held.content.orders + 1
  number = ap (λ (x : Order). x.number) taken.next

  queued_place : o.due ≡ None
      → length (queue (with_order held.content o) o.sender) ≡ length (queue held.content o.sender) + 1
  unfolding queue
  queued_place direct =
      let here : (is_queued o && bytes_eq o.sender o.sender)
      ≡ true = and_true _ _ (ap is_queued taken.next ∙ ap (λ d. is_queued_state (first_state d)) direct)
      ((bytes_decides o.sender o.sender).1 refl) in
      rw (filter-append (λ x. is_queued x && bytes_eq x.sender o.sender) held.content.orders (o ∷ []), here)
      (length-append (filter (λ x. is_queued x && bytes_eq x.sender o.sender) held.content.orders) (o ∷ []))

  step_queued : o.due ≡ None → settles_at_once held.content o.sender o.amount ≡ false
      → OwnStep held.content (command.Order o.sender (as_sent o))
      (Ok (answer.Queued o.number (length (queue held.content o.sender) + 1))) (with_order held.content o)
  unfolding takes
  step_queued direct waits = sym (taken.taken ∙ ap (takes_due held.content o) direct
      ∙ rw (waits, queued_place direct) refl)

  step_settled : o.due ≡ None → settles_at_once held.content o.sender o.amount ≡ true
      → OwnStep held.content (command.Order o.sender (as_sent o))
      (Ok (answer.Settled o.number (next_mark held.content))) (with_settled held.content o)
  unfolding takes
  step_settled direct settles = sym (taken.taken ∙ ap (takes_due held.content o) direct
      ∙ rw (settles, settle_new held.content (let s = kept.sound in s.orders_numbered) o number) refl)

  step_held : (due : ℕ) → o.due ≡ Some due
      → OwnStep held.content (command.Order o.sender (as_sent o))
      (Ok (answer.Held o.number due)) (with_order held.content o)
  step_held due later = sym (taken.taken ∙ ap (takes_due held.content o) later)

  same_balance : (c : List ℕ) → balance held.content c ≡ balance (with_order held.content o) c
  same_balance c =
      let queued : is_settled o ≡ false = ap is_settled taken.next ∙ first_unsettled o.due in
      sym (rw (balance-with_order held.content o held.content.marks c, queued) (omega (arith, ints)))

  joins : Leads held.content (AddOrder o ∷ []) (with_order held.content o)
  joins = record {
    book = refl;
    balances = all_of (λ c. balance_set c (AddOrder o ∷ [])
        ≡ (if int_eq (balance held.content c) (balance (with_order held.content o) c) then None else Some
        (balance (with_order held.content o) c))) (λ c. rw (← same_balance c, int_eq_self (balance held.content c))
        refl) (codes_of (with_order held.content o));
  }

  pub prepared_held : (due : ℕ) → o.due ≡ Some due
      → IsPrepared held (command.Order o.sender (as_sent o)) (answer.Held o.number due)
      (AddOrder o ∷ [])
  prepared_held due later =
      prepared_done held (command.Order o.sender (as_sent o)) (answer.Held o.number due)
      (AddOrder o ∷ []) (with_order held.content o) taken.fits (step_held due later) joins (tt, tt)
      (all_same (balance held.content) (balance (with_order held.content o)) same_balance held.accounts kept.balanced)
      (λ k e. absurd (cc)) (λ e. absurd (cc))

  pub prepared_queued : o.due ≡ None → settles_at_once held.content o.sender o.amount ≡ false
      → IsPrepared held (command.Order o.sender (as_sent o))
      (answer.Queued o.number (length (queue held.content o.sender) + 1)) (AddOrder o ∷ [])
  prepared_queued direct waits =
      prepared_done held (command.Order o.sender (as_sent o))
      (answer.Queued o.number (length (queue held.content o.sender) + 1)) (AddOrder o ∷ [])
      (with_order held.content o) taken.fits (step_queued direct waits) joins (tt, tt)
      (all_same (balance held.content) (balance (with_order held.content o)) same_balance held.accounts kept.balanced)
      (λ k e. absurd (cc)) (λ e. absurd (cc))

  pub prepared_waiting : settles_now held.content o.sender (as_sent o) ≡ false
      → IsPrepared held (command.Order o.sender (as_sent o))
      (waiting_answer o.number (length (queue held.content o.sender) + 1) o.due) (AddOrder o ∷ [])
  prepared_waiting waits = by o.due refl waits
    where
      by : (due : Option ℕ) → o.due ≡ due
          → settles_now held.content o.sender (record (as_sent o) { due = due }) ≡ false
          → IsPrepared held (command.Order o.sender (as_sent o))
          (waiting_answer o.number (length (queue held.content o.sender) + 1) due) (AddOrder o ∷ [])
      by None direct waits = prepared_queued direct waits
      by (Some due) later waits = prepared_held due later

  moves : (c : List ℕ) → balance (with_settled held.content o) c
      ≡ balance held.content c +ℤ ((if bytes_eq o.receiver c then pos o.amount else pos 0) -ℤ
      (if bytes_eq o.sender c then pos o.amount else pos 0))
  unfolding gain
  moves c = balance-with_order held.content (settled_order held.content o)
      (held.content.marks ++ mark_of held.content (o ∷ []) ∷ []) c

  moves_at : (c : List ℕ) (a b : Bool) → bytes_eq o.receiver c ≡ a → bytes_eq o.sender c ≡ b
      → balance (with_settled held.content o) c ≡ balance held.content c +ℤ
      ((if a then pos o.amount else pos 0) -ℤ (if b then pos o.amount else pos 0))
  moves_at c a b e f =
      subst (λ x. balance (with_settled held.content o) c ≡ balance held.content c +ℤ
      ((if a then pos o.amount else pos 0) -ℤ (if x then pos o.amount else pos 0))) f
      (subst (λ x. balance (with_settled held.content o) c ≡ balance held.content c +ℤ
      ((if x then pos o.amount else pos 0) -ℤ (if bytes_eq o.sender c then pos o.amount else pos 0))) e (moves c))

  -- no code is that of both
  not_both : (c : List ℕ) → bytes_eq o.receiver c ≡ true → bytes_eq o.sender c ≡ false
  not_both c e = subst (λ x. bytes_eq o.sender x ≡ false) ((bytes_decides o.receiver c).0 e) taken.apart

  module _ (sending receiving : Account) (from : find (is_of o.sender) held.accounts ≡ Some sending)
      (to : find (is_of o.receiver) held.accounts ≡ Some receiving) (less more : ℤ)
      (is_less : less ≡ sending.balance -ℤ pos o.amount) (is_more : more ≡ receiving.balance +ℤ pos o.amount) where
    balance_of_sender : (c : List ℕ) → bytes_eq o.receiver c ≡ false → bytes_eq o.sender c ≡ true
        → less ≡ balance (with_settled held.content o) c
    balance_of_sender c e f =
        let old : sending.balance ≡ balance held.content c = found_balance held.content o.sender held.accounts sending
        from kept.balanced ∙ ap (balance held.content) ((bytes_decides o.sender c).0 f) in
        let new = moves_at c false true e f in
        omega (arith, ints)

    balance_of_receiver : (c : List ℕ) → bytes_eq o.receiver c ≡ true → more ≡ balance (with_settled held.content o) c
    balance_of_receiver c e =
        let old : receiving.balance ≡ balance held.content c =
        found_balance held.content o.receiver held.accounts receiving to kept.balanced
        ∙ ap (balance held.content) ((bytes_decides o.receiver c).0 e) in
        let new = moves_at c true false e (not_both c e) in
        omega (arith, ints)

    balance_of_other : (c : List ℕ) → bytes_eq o.receiver c ≡ false → bytes_eq o.sender c ≡ false
        → balance held.content c ≡ balance (with_settled held.content o) c
    balance_of_other c e f = let new = moves_at c false false e f in omega (arith, ints)

    is_moved : (c : List ℕ) → moved o.receiver more (moved o.sender less (balance held.content)) c
        ≡ balance (with_settled held.content o) c
    is_moved c = by (bytes_eq o.receiver c) (bytes_eq o.sender c) refl refl
      where
        by : (a b : Bool) → bytes_eq o.receiver c ≡ a → bytes_eq o.sender c ≡ b
            → (if a then more else (if b then less else balance held.content c))
            ≡ balance (with_settled held.content o) c
        by true b e f = balance_of_receiver c e
        by false true e f = balance_of_sender c e f
        by false false e f = balance_of_other c e f

    abbrev pub rows : List RowChange
    rows = AddOrder (settled_order held.content o) ∷ AddMark (mark_of held.content (o ∷ [])) ∷ SetBalance o.sender less
        ∷ SetBalance o.receiver more ∷ []

    sets : 1 ≤ o.amount → (c : List ℕ) → balance_set c rows ≡ (if int_eq (balance held.content c)
        (balance (with_settled held.content o) c) then None else Some (balance (with_settled held.content o) c))
    sets some c = by (bytes_eq o.receiver c) (bytes_eq o.sender c) refl refl
      where
        by : (a b : Bool) → bytes_eq o.receiver c ≡ a → bytes_eq o.sender c ≡ b
            → or_else (if a then Some more else None) (if b then Some less else None)
            ≡ (if int_eq (balance held.content c) (balance (with_settled held.content o) c) then None else Some
            (balance (with_settled held.content o) c))
        by true true e f = absurd (true≢false (sym f ∙ not_both c e))
        by true false e f = rw (differs (balance held.content c) (balance (with_settled held.content o) c)
            (pos o.amount -ℤ pos 0) (moves_at c true false e f) (λ z. omega (arith, ints)))
            (ap Some (balance_of_receiver c e))
        by false true e f = rw (differs (balance held.content c) (balance (with_settled held.content o) c)
            (pos 0 -ℤ pos o.amount) (moves_at c false true e f) (λ z. omega (arith, ints)))
            (ap Some (balance_of_sender c e f))
        by false false e f = rw (← balance_of_other c e f, int_eq_self (balance held.content c)) refl

    pub prepared_settled : o.due ≡ None → settles_at_once held.content o.sender o.amount ≡ true
        → IsPrepared held (command.Order o.sender (as_sent o))
        (answer.Settled o.number (next_mark held.content)) rows
    prepared_settled direct settles =
        let leads : Leads held.content rows (with_settled held.content o) = record {
          book = refl;
          balances = all_of _ (sets (let f = taken.fits in f.0)) (codes_of (with_settled held.content o));
        } in
        prepared_done held (command.Order o.sender (as_sent o))
        (answer.Settled o.number (next_mark held.content)) rows (with_settled held.content o) taken.fits
        (step_settled direct settles) leads (tt, (tt, (tt, (tt, tt))))
        (all_same (moved o.receiver more (moved o.sender less (balance held.content)))
        (balance (with_settled held.content o)) is_moved
        (with_balance o.receiver more (with_balance o.sender less held.accounts))
        (all_moved o.receiver more (moved o.sender less (balance held.content))
        (with_balance o.sender less held.accounts) (all_moved o.sender less (balance held.content) held.accounts
        kept.balanced)))
        (λ k e. absurd (cc)) (λ e. absurd (cc))

-- so it is in the book whose core the records are
pub order_taken : (book : Book) (r : Records) (core : Core) (of : IsOf book r core)
    (sender : List ℕ) (new_order : NewOrder) (date : ℕ) (sending receiving : Account) (o : Order)
    → o ≡ order_numbered r.orders.next sender new_order (unwrap_or new_order.due date)
    → find (is_of sender) r.accounts.accounts ≡ Some sending
    → order_named (book_of (whole book r)) sender new_order.reference ≡ None
    → (if is_open r.day.phase then r.day.date else None) ≡ Some date
    → find (is_of new_order.receiver) r.accounts.accounts ≡ Some receiving
    → bytes_eq sender new_order.receiver ≡ false
    → is_due_too_early (book_of (whole book r)) new_order.due ≡ false → is_due_on_a_weekend new_order.due ≡ false
    → nat_le LARGEST_NUMBER (length book.orders) ≡ false → IsAmount new_order.amount
    → (not (settles_now (book_of (whole book r)) sender new_order)
    && nat_le LONGEST_QUEUE (length (waiting (book_of (whole book r)) sender))) ≡ false
    → IsTaken book o
order_taken book r core of sender new_order date sending receiving o is from unused day to apart later working few
    fits room =
    let next : o ≡ order_numbered (length book.orders + 1) sender new_order (unwrap_or new_order.due date) =
    is ∙ (λ i. order_numbered (of.orders i) sender new_order (unwrap_or new_order.due date)) in
    subst (IsTaken book) (sym next) (subst (λ (b : Book). IsTaken b
    (order_numbered (length book.orders + 1) sender new_order (unwrap_or new_order.due date))) of.same
    (taken_now (whole book r) of.kept sender new_order date sending receiving from unused day to
    apart later working few fits room))
