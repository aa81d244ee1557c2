-- The orders that a choice settles, by their numbers, and the rows that settle them.
use Rattle.std.specs.Prelude.{ℕ, Bool, not, List, ◌∷◌, ◌++◌, map, filter, take, ⊤}
use Rattle.std.specs.List.{flat_map}
use Rattle.std.specs.Ordering.{int_eq}
use Rattle.rtgs_book.specs.declared.book.Book.{Book}
use Rattle.rtgs_book.specs.declared.change.RowChange.{RowChange}
use Rattle.rtgs_book.specs.declared.change.RowChange.TheVariants.{AddMark, SetBalance, SetState}
use Rattle.rtgs_book.specs.declared.mark.Mark.{Mark}
use Rattle.rtgs_book.specs.declared.order.Order.{Order}
use Rattle.rtgs_book.specs.declared.order_state.OrderState.{OrderState}
use Rattle.rtgs_book.specs.declared.order_state.OrderState.TheVariants.{Settled}
use Rattle.rtgs_book.specs.Lookup.{codes_of}
use Rattle.rtgs_book.specs.Balance.{balance}
use Rattle.rtgs_book.specs.Queue.{queue, queued_numbers}
use Rattle.rtgs_book.specs.Choice.{Choice, balance_after}
use Rattle.rtgs_book.specs.Commands.{has_number}
use Rattle.rtgs_choices.specs.OneByOne.{passes_one}

-- account by account the first orders of the queue, as many as the choice says
unfoldable pub orders_taken : Book → Choice → List Order
orders_taken book choice = flat_map (λ code. take (choice code) (queue book code)) (codes_of book)

-- account by account the first numbers of the queue, as many as the choice says
unfoldable pub numbers_taken : Book → Choice → List ℕ
numbers_taken book choice = flat_map (λ code. take (choice code) (queued_numbers book.orders code)) (codes_of book)

-- the order has one of the numbers
abbrev pub is_numbered : List ℕ → Order → Bool
is_numbered = passes_one has_number

-- the orders with these numbers get this state
abbrev pub state_rows : OrderState → List ℕ → List RowChange
state_rows state numbers = map (λ number. SetState number state) numbers

-- the row sets a balance
abbrev pub IsOfBalance : RowChange → Type 0
IsOfBalance (SetBalance code cents) = ⊤
IsOfBalance row = ⊥

-- the choice moves the balance
abbrev pub moves : Book → Choice → List ℕ → Bool
moves book choice code = not (int_eq (balance book code) (balance_after book choice code))

-- each balance that the choice moves, in code order
unfoldable pub balance_rows : Book → Choice → List RowChange
balance_rows book choice = map (λ code. SetBalance code (balance_after book choice code))
    (filter (moves book choice) (codes_of book))

-- the orders with these numbers are settled under the mark; then the mark, and the balances
abbrev pub settling_rows : Book → Choice → List ℕ → Mark → List RowChange
settling_rows book choice numbers mark = state_rows (Settled mark.number) numbers ++ AddMark mark
    ∷ balance_rows book choice
