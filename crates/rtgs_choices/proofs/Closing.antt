-- The closing of a day, and its change.
use Rattle.std.proofs.Common.{◌≡◌, ℕ, Bool, true, false, List, [], ◌∷◌, filter, length, Ok, None, Some, cond}
use Rattle.std.proofs.Common.{refl, sym, ◌∙◌, ap}
use Rattle.std.specs.List.{AllByRecursion, flat_map}
use Rattle.std.specs.Ordering.{int_eq}
use Rattle.std.specs.Cmp.{int_eq_equiv}
use Rattle.rtgs_book.specs.declared.answer.Answer.TheVariants as answer
use Rattle.rtgs_book.specs.declared.book.Book.{Book}
use Rattle.rtgs_book.specs.declared.change.RowChange.{RowChange}
use Rattle.rtgs_book.specs.declared.change.RowChange.TheVariants.{SetDay}
use Rattle.rtgs_book.specs.declared.command.Command.TheVariants.{CloseDay}
use Rattle.rtgs_book.specs.declared.order.Order.{Order}
use Rattle.rtgs_book.specs.declared.order_state.OrderState.{OrderState}
use Rattle.rtgs_book.specs.declared.order_state.OrderState.TheVariants.{Queued, Held, Settled, Withdrawn, Rejected}
use Rattle.rtgs_book.specs.declared.phase.Phase.{Phase}
use Rattle.rtgs_book.specs.declared.phase.Phase.TheVariants.{Closed, Open, CutOff}
use Rattle.rtgs_book.specs.Books.{is_closed, is_cut_off, is_empty, is_queued, is_queued_state, is_settled}
use Rattle.rtgs_book.specs.Books.{is_settled_state}
use Rattle.rtgs_book.specs.Lookup.{codes_of}
use Rattle.rtgs_book.specs.Balance.{balance}
use Rattle.rtgs_book.specs.Queue.{queued_numbers}
use Rattle.rtgs_book.specs.Choice.{Choice, chosen, IsGreatest}
use Rattle.rtgs_book.specs.Commands.{close_day, is_on, overdrawn, with_day, with_state}
use Rattle.rtgs_book.specs.Settle.{in_state}
use Rattle.rtgs_book.specs.Outcome.{first_of}
use Rattle.rtgs_book.specs.Changes.{changed, balance_set, SetsBalances, StartsEmpty}
use Rattle.rtgs_book.specs.Step.{OwnStep}
use Rattle.rtgs_choices.specs.Settling.{is_numbered, state_rows}
use Rattle.rtgs_choices.specs.Closing.{closed_book, closing_rows}
use Rattle.rtgs_choices.proofs.Rows.{changed-append, balance_set-states, added-states}
use Rattle.rtgs_lists.proofs.Lists.{all_of, changed_agrees}

not_closed : (p : Phase) → is_cut_off p ≡ true → is_closed p ≡ false
not_closed Closed e = absurd (cc)
not_closed Open e = refl
not_closed CutOff e = refl

pub closing : (book : Book) (choice : Choice) (date : ℕ) → is_cut_off book.day.phase ≡ true → is_on book date ≡ true
    → IsGreatest book choice → is_empty (chosen book choice) ≡ true → overdrawn book ≡ []
    → OwnStep book (CloseDay date) (Ok (answer.Closed (length (filter is_queued book.orders)))) (closed_book book)
unfolding close_day first_of
closing book choice date cut same greatest none covered = (
  choice,
  greatest,
  rw
      (not_closed book.day.phase cut, cut, same, none, covered) refl,
)

-- setting the states one by one sets that of all with these numbers
abbrev StatesOneByOne : Type 0
StatesOneByOne = (book : Book) (state : OrderState) (numbers : List ℕ)
    → changed book (state_rows state numbers) ≡ with_state book (is_numbered numbers) state

-- the numbers in the queues are those of the queued orders
abbrev QueuedAreNumbered : Book → Type 0
QueuedAreNumbered book = AllByRecursion (λ order. is_queued order
    ≡ is_numbered (flat_map (queued_numbers book.orders) (codes_of book)) order) book.orders

-- orders that get another state, and are settled neither before nor after, move no balance
abbrev BalanceAfterRestating : Type 0
BalanceAfterRestating = (book : Book) (is_in : Order → Bool) (state : OrderState) (code : List ℕ)
    → AllByRecursion (λ order. is_in order ≡ true → is_settled order ≡ false) book.orders
    → is_settled_state state ≡ false → balance (with_state book is_in state) code ≡ balance book code

abbrev numbers : Book → List ℕ
numbers book = flat_map (queued_numbers book.orders) (codes_of book)

pub rejected : (book : Book) → StatesOneByOne → QueuedAreNumbered book
    → changed book (closing_rows book) ≡ closed_book book
unfolding with_state
rejected book states queued =
    changed-append book (state_rows Rejected (numbers book))
    (SetDay (record book.day { phase = Closed; automatic = false }) ∷ [])
    ∙ ap (λ (b : Book). with_day b (record book.day { phase = Closed; automatic = false }))
    (states book Rejected (numbers book))
    ∙ ap (λ (os : List Order).
    with_day (record book { orders = os }) (record book.day { phase = Closed; automatic = false }))
    (sym (changed_agrees is_queued (is_numbered (numbers book)) (in_state Rejected) book.orders queued))

not_settled : (state : OrderState) → is_queued_state state ≡ true → is_settled_state state ≡ false
not_settled Queued e = refl
not_settled Held e = refl
not_settled (Settled mark) e = absurd (cc)
not_settled Withdrawn e = refl
not_settled Rejected e = refl

pub same_balance : (book : Book) → BalanceAfterRestating → (code : List ℕ)
    → balance (closed_book book) code ≡ balance book code
unfolding balance
same_balance book law code = law book is_queued Rejected code
    (all_of (λ o. is_queued o ≡ true → is_settled o ≡ false) (λ o e. not_settled o.state e) book.orders) refl

pub moves_nothing : (book : Book) → BalanceAfterRestating → SetsBalances book (closing_rows book) (closed_book book)
moves_nothing book law = all_of (λ code. balance_set code (closing_rows book)
    ≡ cond (int_eq (balance book code) (balance (closed_book book) code)) None (Some (balance (closed_book book) code)))
    at (codes_of (closed_book book))
  where
    at : (code : List ℕ) → balance_set code (closing_rows book)
        ≡ cond (int_eq (balance book code) (balance (closed_book book) code)) None
        (Some (balance (closed_book book) code))
    at code =
        balance_set-states code Rejected (flat_map (queued_numbers book.orders) (codes_of book))
        (SetDay (record book.day { phase = Closed; automatic = false }) ∷ [])
        ∙ rw (same_balance book law code, int_eq_equiv.refl (balance book code)) refl

pub adds_nobody : (new : Book) (all : List RowChange) (book : Book)
    → AllByRecursion (StartsEmpty new all) (closing_rows book)
adds_nobody new all book = added-states new all Rejected (flat_map (queued_numbers book.orders) (codes_of book))
    (SetDay (record book.day { phase = Closed; automatic = false }) ∷ []) (tt, tt)
