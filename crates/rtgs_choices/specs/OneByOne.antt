-- Rows that change orders, one after another.
use Rattle.std.specs.Prelude.{◌≡◌, ℕ, Bool, List, ◌∷◌}
use Rattle.std.specs.List.{list_any}
use Rattle.rtgs_book.specs.declared.book.Book.{Book}
use Rattle.rtgs_book.specs.declared.change.RowChange.{RowChange}
use Rattle.rtgs_book.specs.declared.order.Order.{Order}
use Rattle.rtgs_book.specs.Changes.{with_row, balance_set, StartsEmpty}
use Rattle.rtgs_book.specs.Commands.{with_altered}

-- Each number's row changes the orders that pass the number's test, and nothing else. To change an order twice so is to
-- change it once.
pub record ChangesOrders (row : ℕ → RowChange) (passes : ℕ → Order → Bool) (change : Order → Order) : Type 0 where
  pub book : (book : Book) (number : ℕ) → with_row book (row number) ≡ with_altered book (passes number) change
  pub once : (order : Order) → change (change order) ≡ change order
  pub balances : (code : List ℕ) (number : ℕ) (rows : List RowChange)
      → balance_set code (row number ∷ rows) ≡ balance_set code rows
  pub added : (new : Book) (rows : List RowChange) (number : ℕ) → StartsEmpty new rows (row number)

-- the order passes the test of one of the numbers
abbrev pub passes_one : (ℕ → Order → Bool) → List ℕ → Order → Bool
passes_one passes numbers order = list_any (λ number. passes number order) numbers
