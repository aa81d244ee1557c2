-- What opening a day gives, test by test, and its change.
use Rattle.std.proofs.Common.{◌≡◌, ℕ, Bool, true, false, ◌&&◌, if◌then◌else◌, List, [], ◌∷◌, Ok, Err, Some, None, refl}
use Rattle.std.specs.Ordering.{int_eq}
use Rattle.rtgs_money.specs.Date.{is_weekend}
use Rattle.rtgs_book.specs.declared.command.Command.TheVariants.{OpenDay}
use Rattle.rtgs_book.specs.declared.answer.Answer.TheVariants.{Opened, Repeated}
use Rattle.rtgs_book.specs.declared.answer.Known.TheVariants.{Nothing}
use Rattle.rtgs_book.specs.declared.refusal.Refusal.TheVariants.{WrongPhase, WrongDate, Weekend}
use Rattle.rtgs_book.specs.declared.change.RowChange.TheVariants.{SetDay}
use Rattle.rtgs_book.specs.declared.book.Book.{Book}
use Rattle.rtgs_book.specs.declared.day.Day.{Day}
use Rattle.rtgs_book.specs.declared.new_day.NewDay.{NewDay}
use Rattle.rtgs_book.specs.Balance.{balance}
use Rattle.rtgs_book.specs.Books.{is_open, is_closed}
use Rattle.rtgs_book.specs.Changes.{Leads, balance_set}
use Rattle.rtgs_book.specs.Commands.{open_day, opened_day, with_day, is_automatic_as, is_date, is_later, is_due}
use Rattle.rtgs_book.specs.Commands.{is_due_by, let_in}
use Rattle.rtgs_book.specs.declared.change.RowChange.{RowChange}
use Rattle.rtgs_book.specs.declared.change.RowChange.TheVariants.{EnterQueue}
use Rattle.rtgs_book.specs.declared.order.Order.{Order}
use Rattle.rtgs_book.specs.Books.{is_settled, is_waiting, is_waiting_state, is_held_state}
use Rattle.rtgs_book.specs.declared.order_state.OrderState.{OrderState}
use Rattle.rtgs_book.specs.declared.order_state.OrderState.TheVariants as state
use Rattle.rtgs_book.specs.Changes.{StartsEmpty, changed, with_row}
use Rattle.rtgs_records.specs.queues.Laws.{NumbersLeadToOrders}
use Rattle.rtgs_ledger.proofs.Entering.{enter_rows, due_numbers, due_enter}
use Rattle.rtgs_ledger.proofs.Whole.{after, after_row}
use Rattle.rtgs_ledger.proofs.Withdrawing.{waits_unsettled}
use Rattle.rtgs_book.specs.cores.Following.{AreBalanced}
use Rattle.std.proofs.Common.{Bool, ◌++◌, filter, ap, ◌∙◌, sym, subst}
use Rattle.std.proofs.lemmas.Bool.{and_parts}
use Rattle.std.specs.List.{AllByRecursion}
use Rattle.rtgs_book.specs.Lookup.{codes_of}
use Rattle.rtgs_book.specs.Outcome.{first_of}
use Rattle.rtgs_book.specs.Step.{OwnStep}
use Rattle.rtgs_ledger.proofs.Balances.{all_same}
use Rattle.rtgs_ledger.proofs.Kept.{prepared_done}
use Rattle.rtgs_ledger.proofs.Whole.{Held, IsKept, IsPrepared}
use Rattle.rtgs_lists.proofs.Filters.{filter_agrees, filter_twice}
use Rattle.rtgs_lists.proofs.Lists.{all_of}
use Rattle.rtgs_lists.proofs.Numbers.{int_eq_self}

module _ (book : Book) (new_day : NewDay) where
  pub repeats : (is_open book.day.phase && is_date book.day.date new_day.date
      && is_automatic_as new_day.automatic book.day) ≡ true
      → OwnStep book (OpenDay new_day) (Ok (Repeated Nothing)) book
  unfolding open_day first_of
  repeats same = rw same refl

  module _ (new : (is_open book.day.phase && is_date book.day.date new_day.date
      && is_automatic_as new_day.automatic book.day) ≡ false) where
    pub wrong_phase : is_closed book.day.phase ≡ false → OwnStep book (OpenDay new_day) (Err WrongPhase) book
    unfolding open_day first_of
    wrong_phase not_closed = rw (new, not_closed) refl

    pub wrong_date : is_closed book.day.phase ≡ true → is_later new_day.date book.day.date ≡ false
        → OwnStep book (OpenDay new_day) (Err WrongDate) book
    unfolding open_day first_of
    wrong_date closed early = rw (new, closed, early) refl

    pub weekend : is_closed book.day.phase ≡ true → is_later new_day.date book.day.date ≡ true
        → is_weekend new_day.date ≡ true
        → OwnStep book (OpenDay new_day) (Err Weekend) book
    unfolding open_day first_of
    weekend closed later free = rw (new, closed, later, free) refl

    pub opens : is_closed book.day.phase ≡ true → is_later new_day.date book.day.date ≡ true
        → is_weekend new_day.date ≡ false
        → OwnStep book (OpenDay new_day) (Ok Opened) (with_day (let_in book (is_due new_day.date) new_day.date)
        (opened_day new_day))
    unfolding open_day first_of
    opens closed later working = rw (new, closed, later, working) refl

-- orders that enter their queues move no balance
abbrev pub BalanceAfterEntering : Type 0
BalanceAfterEntering = (book : Book) (is_in : Order → Bool) (date : ℕ) (code : List ℕ)
    → AllByRecursion (λ order. is_in order ≡ true → is_settled order ≡ false) book.orders
    → balance (let_in book is_in date) code ≡ balance book code

held_waits : (s : OrderState) → is_held_state s ≡ true → is_waiting_state s ≡ true
held_waits state.Queued e = refl
held_waits state.Held e = refl
held_waits (state.Settled mark) e = absurd (cc)
held_waits state.Withdrawn e = absurd (cc)
held_waits state.Rejected e = absurd (cc)

-- what is due is held, so it waits
due_waits : (s : OrderState) (due : Bool) → (is_waiting_state s && (is_held_state s && due)) ≡ (is_held_state s && due)
due_waits state.Queued due = refl
due_waits state.Held due = refl
due_waits (state.Settled mark) due = refl
due_waits state.Withdrawn due = refl
due_waits state.Rejected due = refl

-- the orders that are due are among those that wait
pub due_among : (date : ℕ) (orders : List Order) → filter (is_due date) (filter is_waiting orders)
    ≡ filter (is_due date) orders
due_among date orders = filter_twice is_waiting (is_due date) orders
    ∙ filter_agrees (λ o. is_waiting o && is_due date o) (is_due date) orders
    (all_of (λ o. (is_waiting o && is_due date o) ≡ is_due date o) (λ o. due_waits o.state (is_due_by date o.due))
    orders)

changed_more : (book : Book) (rows more : List RowChange) → changed book (rows ++ more)
    ≡ changed (changed book rows) more
changed_more book [] more = refl
changed_more book (row ∷ rows) more = changed_more (with_row book row) rows more

sets_none : (c : List ℕ) (date : ℕ) (numbers : List ℕ) (day : Day)
    → balance_set c (enter_rows date numbers ++ SetDay day ∷ []) ≡ None
sets_none c date [] day = refl
sets_none c date (n ∷ ns) day = sets_none c date ns day

adds_nobody : (new : Book) (all : List RowChange) (date : ℕ) (numbers : List ℕ) (day : Day)
    → AllByRecursion (StartsEmpty new all) (enter_rows date numbers ++ SetDay day ∷ [])
adds_nobody new all date [] day = (tt, tt)
adds_nobody new all date (n ∷ ns) day = (tt, adds_nobody new all date ns day)

accounts_stay : (held : Held) (date : ℕ) (numbers : List ℕ) (day : Day)
    → (after held (enter_rows date numbers ++ SetDay day ∷ [])).accounts ≡ held.accounts
accounts_stay held date [] day = refl
accounts_stay held date (n ∷ ns) day = accounts_stay (after_row held (EnterQueue n date)) date ns day

module _ (held : Held) (kept : IsKept held) (new_day : NewDay) (law : BalanceAfterEntering)
    (numbers : NumbersLeadToOrders) where
  abbrev opened : Book
  opened = with_day (let_in held.content (is_due new_day.date) new_day.date) (opened_day new_day)

  abbrev pub entering : List ℕ
  entering = due_numbers numbers new_day.date held.content kept.sound.orders_numbered

  abbrev pub opening_rows : List RowChange
  opening_rows = enter_rows new_day.date entering ++ SetDay (opened_day new_day) ∷ []

  balance_same : (c : List ℕ) → balance held.content c ≡ balance opened c
  unfolding balance
  balance_same c = sym (law held.content (is_due new_day.date) new_day.date c
      (all_of (λ o. is_due new_day.date o ≡ true → is_settled o ≡ false)
      (λ o e. waits_unsettled o.state (held_waits o.state (and_parts _ _ e).0)) held.content.orders))

  leads_to_it : Leads held.content opening_rows opened
  leads_to_it = record {
    book = changed_more held.content (enter_rows new_day.date entering) (SetDay (opened_day new_day) ∷ [])
        ∙ ap (λ b. with_day b (opened_day new_day))
        (due_enter numbers new_day.date held.content kept.sound.orders_numbered);
    balances = all_of (λ c. balance_set c opening_rows ≡ (if int_eq (balance held.content c) (balance opened c) then
        None
        else Some (balance opened c)))
        (λ c. sets_none c new_day.date entering (opened_day new_day)
        ∙ rw (← balance_same c, int_eq_self (balance held.content c)) refl)
        (codes_of opened);
  }

  pub prepared_open : (is_open held.content.day.phase && is_date held.content.day.date new_day.date
      && is_automatic_as new_day.automatic held.content.day) ≡ false → is_closed held.content.day.phase ≡ true
      → is_later new_day.date held.content.day.date ≡ true → is_weekend new_day.date ≡ false
      → IsPrepared held (OpenDay new_day) Opened opening_rows
  prepared_open new closed later working =
      prepared_done held (OpenDay new_day) Opened opening_rows opened tt
      (opens held.content new_day new closed later working) leads_to_it
      (adds_nobody opened opening_rows new_day.date entering (opened_day new_day))
      (subst (AreBalanced opened) (sym (accounts_stay held new_day.date entering (opened_day new_day)))
      (all_same (balance held.content) (balance opened) balance_same held.accounts kept.balanced))
      (λ k e. absurd (cc)) (λ e. absurd (cc))
