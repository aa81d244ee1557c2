-- What closing a day gives, test by test, and its change.
use Rattle.std.proofs.Common.{◌≡◌, ℕ, pos, Bool, true, false, ◌&&◌, cond, if◌then◌else◌, List, [], ◌∷◌, ◌++◌, map}
use Rattle.std.proofs.Common.{filter, length, find, Ok, Err, Some, None, refl, sym, ap, subst, ◌∙◌, inl, true≢false}
use Rattle.std.specs.Prelude.{int_lt}
use Rattle.std.proofs.lemmas.List.{length-map}
use Rattle.std.specs.List.{AllByRecursion, flat_map}
use Rattle.rtgs_book.specs.declared.command.Command.TheVariants as command
use Rattle.rtgs_book.specs.declared.answer.Answer.TheVariants as answer
use Rattle.rtgs_book.specs.declared.answer.Known.TheVariants.{Nothing}
use Rattle.rtgs_book.specs.declared.refusal.Refusal.TheVariants.{WrongPhase, WrongDate, Resolvable, Overdrawn}
use Rattle.rtgs_book.specs.declared.refusal.Refusal.TheVariants.{OutOfMemory}
use Rattle.rtgs_book.specs.declared.change.RowChange.{RowChange}
use Rattle.rtgs_book.specs.declared.change.RowChange.TheVariants.{SetDay, SetState}
use Rattle.rtgs_book.specs.declared.book.Book.{Book}
use Rattle.rtgs_book.specs.declared.order.Order.{Order}
use Rattle.rtgs_book.specs.declared.order_state.OrderState.{OrderState}
use Rattle.rtgs_book.specs.declared.order_state.OrderState.TheVariants.{Rejected}
use Rattle.rtgs_book.specs.declared.participant.Participant.{Participant}
use Rattle.rtgs_book.specs.declared.phase.Phase.{Phase}
use Rattle.rtgs_book.specs.declared.phase.Phase.TheVariants.{Closed, Open, CutOff}
use Rattle.rtgs_book.specs.Balance.{balance}
use Rattle.rtgs_book.specs.Books.{is_closed, is_cut_off, is_empty, is_queued, is_waiting}
use Rattle.rtgs_book.specs.Changes.{Leads, StartsEmpty}
use Rattle.rtgs_book.specs.Choice.{Choice, chosen, IsGreatest}
use Rattle.rtgs_book.specs.Commands.{close_day, overdrawn, is_date, is_on}
use Rattle.rtgs_book.specs.Lookup.{codes_of}
use Rattle.rtgs_book.specs.Outcome.{first_of}
use Rattle.rtgs_book.specs.Queue.{queue, queued_numbers}
use Rattle.rtgs_book.specs.Step.{OwnStep}
use Rattle.rtgs_choices.specs.Closing.{closed_book, closing_rows}
use Rattle.rtgs_choices.specs.Settling.{state_rows}
use Rattle.rtgs_book.specs.declared.account.Account.{Account}
use Rattle.rtgs_book.specs.Accounts.{is_overdrawn}
use Rattle.rtgs_records.specs.accounts.Accounts.{code_of, participant_in}
use Rattle.rtgs_ledger.proofs.Balances.{all_same}
use Rattle.rtgs_ledger.proofs.Ordering.{is_shut, is_opened, is_day}
use Rattle.rtgs_ledger.specs.Closing.{IsClosable}
use Rattle.rtgs_ledger.specs.Kept.{IsRefusedByItself}
use Rattle.rtgs_records.specs.queues.Laws.{QueuesAreOfTheWaiting}
use Rattle.rtgs_ledger.proofs.Reading.{numbers_are}
use Rattle.rtgs_book.specs.cores.Following.{AreBalanced}
use Rattle.rtgs_ledger.proofs.Whole.{Held, IsKept, IsPrepared, Whole, after, after_row, book_of, held_of}

not_closed : (p : Phase) → is_cut_off p ≡ true → is_closed p ≡ false
not_closed Closed e = absurd (cc)
not_closed Open e = refl
not_closed CutOff e = refl

-- a close may lack memory before its last tests
pub may_lack : (book : Book) (date : ℕ) → IsRefusedByItself book (command.CloseDay date) OutOfMemory
may_lack book date = inl (refl, λ e. absurd (true≢false e))

module _ (book : Book) (date : ℕ) (choice : Choice) (greatest : IsGreatest book choice) where
  pub repeats : (is_closed book.day.phase && is_date book.day.date date) ≡ true
      → OwnStep book (command.CloseDay date) (Ok (answer.Repeated Nothing)) book
  unfolding close_day first_of
  repeats same = (choice, greatest, rw same refl)

  pub wrong_phase : (is_closed book.day.phase && is_date book.day.date date) ≡ false → is_cut_off book.day.phase ≡ false
      → OwnStep book (command.CloseDay date) (Err WrongPhase) book
  unfolding close_day first_of
  wrong_phase new other = (choice, greatest, rw (new, other) refl)

  module _ (cut : is_cut_off book.day.phase ≡ true) where
    pub wrong_date : is_on book date ≡ false → OwnStep book (command.CloseDay date) (Err WrongDate) book
    unfolding close_day first_of
    wrong_date other = (choice, greatest, rw (not_closed book.day.phase cut, cut, other) refl)

    module _ (same : is_on book date ≡ true) where
      pub resolvable : is_empty (chosen book choice) ≡ false
          → OwnStep book (command.CloseDay date) (Err Resolvable) book
      unfolding close_day first_of
      resolvable some = (choice, greatest, rw (not_closed book.day.phase cut, cut, same, some) refl)

      pub somebody_overdrawn : is_empty (chosen book choice) ≡ true → (code : List ℕ) (codes : List (List ℕ))
          → overdrawn book ≡ code ∷ codes → OwnStep book (command.CloseDay date)
          (Err (Overdrawn code (length (code ∷ codes)))) book
      unfolding close_day first_of
      somebody_overdrawn none code codes some = (
        choice,
        greatest,
        rw
            (not_closed book.day.phase cut, cut, same, none, some) refl,
      )

module _ (r : Whole) (kept : IsKept (held_of r)) where
  pub not_cut_off_now : (if is_cut_off r.day.phase then r.day.date else None) ≡ None → is_cut_off r.day.phase ≡ false
  not_cut_off_now e = is_shut (is_cut_off r.day.phase) r.day.date e
      (λ cut. let s = kept.sound in s.dates.dated (not_closed r.day.phase cut))

  pub cut_off_now : (date : ℕ) → (if is_cut_off r.day.phase then r.day.date else None) ≡ Some date
      → is_cut_off r.day.phase ≡ true
  cut_off_now date e = is_opened (is_cut_off r.day.phase) r.day.date date e

  pub cut_off_today : (date : ℕ) → (if is_cut_off r.day.phase then r.day.date else None) ≡ Some date
      → r.day.date ≡ Some date
  cut_off_today date e = is_day (is_cut_off r.day.phase) r.day.date date e

-- ---- who is below zero

first_of_filter : {X : Type 0} (p : X → Bool) (xs : List X) (x : X) → find p xs ≡ Some x
    → (rest : List X) × (filter p xs ≡ x ∷ rest)
first_of_filter p [] x e = absurd (cc)
first_of_filter {X} p (y ∷ ys) x e = by (p y) e (first_of_filter p ys x)
  where
    by : (b : Bool) → cond b (Some y) (find p ys) ≡ Some x → (find p ys ≡ Some x
        → (rest : List X) × (filter p ys ≡ x ∷ rest)) → (rest : List X)
        × (cond b (y ∷ filter p ys) (filter p ys) ≡ x ∷ rest)
    by true f more = let same : y ≡ x = cc in (filter p ys, ap (λ z. z ∷ filter p ys) same)
    by false f more = more f

none_of_filter : {X : Type 0} (p : X → Bool) (xs : List X) → find p xs ≡ None → filter p xs ≡ []
none_of_filter p [] e = refl
none_of_filter {X} p (y ∷ ys) e = by (p y) e (none_of_filter p ys)
  where
    by : (b : Bool) → cond b (Some y) (find p ys) ≡ None → (find p ys ≡ None → filter p ys ≡ [])
        → cond b (y ∷ filter p ys) (filter p ys) ≡ []
    by true f more = absurd (cc)
    by false f more = more f

codes_below : (book : Book) (xs : List Account) → AreBalanced book xs
    → filter (λ code. int_lt (balance book code) (pos 0)) (map (λ (p : Participant). p.code) (map participant_in xs))
    ≡ map code_of (filter is_overdrawn xs)
codes_below book [] h = refl
codes_below book (x ∷ xs) h =
    ap (λ z. cond (int_lt z (pos 0)) (code_of x ∷ filter (λ code. int_lt (balance book code) (pos 0))
    (map (λ (p : Participant). p.code) (map participant_in xs)))
    (filter (λ code. int_lt (balance book code) (pos 0))
    (map (λ (p : Participant). p.code) (map participant_in xs)))) (sym h.0)
    ∙ by (is_overdrawn x) (codes_below book xs h.1)
  where
    by : (b : Bool) → filter (λ code. int_lt (balance book code) (pos 0))
        (map (λ (p : Participant). p.code) (map participant_in xs)) ≡ map code_of (filter is_overdrawn xs)
        → cond b (code_of x ∷ filter (λ code. int_lt (balance book code) (pos 0))
        (map (λ (p : Participant). p.code) (map participant_in xs)))
        (filter (λ code. int_lt (balance book code) (pos 0))
        (map (λ (p : Participant). p.code) (map participant_in xs)))
        ≡ map code_of (cond b (x ∷ filter is_overdrawn xs) (filter is_overdrawn xs))
    by true e = ap (λ cs. code_of x ∷ cs) e
    by false e = e

module _ (r : Whole) (kept : IsKept (held_of r)) where
  below_zero : overdrawn (book_of r) ≡ map code_of (filter is_overdrawn r.accounts.accounts)
  unfolding overdrawn codes_of
  below_zero = codes_below (book_of r) r.accounts.accounts kept.balanced

  pub nobody_below : find is_overdrawn r.accounts.accounts ≡ None → overdrawn (book_of r) ≡ []
  nobody_below none = below_zero ∙ ap (map code_of) (none_of_filter is_overdrawn r.accounts.accounts none)

  pub overdraws : (date : ℕ) → IsClosable (book_of r) date → (a : Account)
      → find is_overdrawn r.accounts.accounts ≡ Some a → OwnStep (book_of r) (command.CloseDay date)
      (Err (Overdrawn (code_of a) (length (filter is_overdrawn r.accounts.accounts)))) (book_of r)
  overdraws date at a found =
      let parts = first_of_filter is_overdrawn r.accounts.accounts a found in
      let there : overdrawn (book_of r) ≡ code_of a ∷ map code_of parts.0 = below_zero ∙ ap (map code_of) parts.1 in
      let count : length (filter is_overdrawn r.accounts.accounts)
      ≡ length (code_of a ∷ map code_of parts.0) = sym (length-map (filter is_overdrawn r.accounts.accounts)
      code_of) ∙ ap (λ xs. length (map code_of xs)) parts.1 in
      subst (λ n. OwnStep (book_of r) (command.CloseDay date) (Err (Overdrawn (code_of a) n)) (book_of r)) (sym count)
      (somebody_overdrawn (book_of r) date at.choice at.greatest at.cut at.same at.none (code_of a)
      (map code_of parts.0) there)

-- ---- what is queued

queues_are : (book : Book) (xs : List Account) → flat_map (λ a. queued_numbers book.orders (code_of a)) xs
    ≡ flat_map (queued_numbers book.orders) (map (λ (p : Participant). p.code) (map participant_in xs))
unfolding queue
queues_are book [] = refl
queues_are book (x ∷ xs) = ap (λ ns. queued_numbers book.orders (code_of x) ++ ns) (queues_are book xs)

pub all_queued : (r : Whole) → flat_map (λ a. queued_numbers r.orders (code_of a)) r.accounts.accounts
    ≡ flat_map (queued_numbers (book_of r).orders) (codes_of (book_of r))
unfolding codes_of
all_queued r = queues_are (book_of r) r.accounts.accounts

-- the queues of the queued orders alone are the same
pub numbers_queued : QueuesAreOfTheWaiting → (orders queued : List Order) (xs : List Account) → queued ≡ filter
    is_waiting orders
    → flat_map (λ a. queued_numbers queued (code_of a)) xs ≡ flat_map (λ a. queued_numbers orders (code_of a)) xs
numbers_queued law orders queued [] e = refl
numbers_queued law orders queued (x ∷ xs) e = λ i. numbers_are law orders queued (code_of x) e i
    ++ numbers_queued law orders queued xs e i

-- ---- the closing

after-append : (held : Held) (rows more : List RowChange) → after held (rows ++ more) ≡ after (after held rows) more
after-append held [] more = refl
after-append held (row ∷ rows) more = after-append (after_row held row) rows more

accounts_after-states : (state : OrderState) (numbers : List ℕ) (held : Held)
    → (after held (state_rows state numbers)).accounts ≡ held.accounts
accounts_after-states state [] held = refl
accounts_after-states state (n ∷ ns) held = accounts_after-states state ns (after_row held (SetState n state))

-- to close a day moves no balance
abbrev ClosingMovesNothing : Type 0
ClosingMovesNothing = (book : Book) (code : List ℕ) → balance (closed_book book) code ≡ balance book code

module _ (held : Held) (kept : IsKept held) (law : ClosingMovesNothing) where
  accounts_stay : (after held (closing_rows held.content)).accounts ≡ held.accounts
  accounts_stay =
      ap (λ (h : Held). h.accounts) (after-append held (state_rows Rejected
      (flat_map (queued_numbers held.content.orders) (codes_of held.content)))
      (SetDay (record held.content.day { phase = Closed; automatic = false }) ∷ []))
      ∙ accounts_after-states Rejected (flat_map (queued_numbers held.content.orders) (codes_of held.content)) held

  pub prepared_closing : (date : ℕ) → OwnStep held.content (command.CloseDay date)
      (Ok (answer.Closed (length (filter is_queued held.content.orders)))) (closed_book held.content)
      → Leads held.content (closing_rows held.content) (closed_book held.content)
      → AllByRecursion (StartsEmpty (closed_book held.content) (closing_rows held.content)) (closing_rows held.content)
      → IsPrepared held (command.CloseDay date) (answer.Closed (length (filter is_queued held.content.orders)))
      (closing_rows held.content)
  prepared_closing date step leads added = record {
    book = closed_book held.content;
    step = step;
    leads = leads;
    added = added;
    in_range = λ _. tt;
    balanced = subst (AreBalanced (closed_book held.content)) (sym accounts_stay)
        (all_same (balance held.content) (balance (closed_book held.content)) (λ c. sym (law held.content c))
        held.accounts kept.balanced);
    repeated = λ k e. absurd (cc);
    nothing = λ e. absurd (cc);
  }
