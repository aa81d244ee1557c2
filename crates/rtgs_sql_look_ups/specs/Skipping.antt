-- Passing over orders that are not of a date.
use Rattle.std.specs.Prelude.{◌≡◌, ◌≢◌, ℕ, ◌<◌, ◌≤◌, true, false, List, Option}
use Rattle.std.specs.List.{AllByRecursion}
use Rattle.rtgs_book.specs.Books.{has_due}
use Rattle.rtgs_book.specs.declared.order.Order.{Order}
use Rattle.rtgs_rows.specs.Dues.{forwards_of}
use Rattle.rtgs_rows.specs.declared.forward.Forward.{Forward}
use Rattle.rtgs_sql_look_ups.specs.Seeking.{first_above}

-- the order with the least number above this one
abbrev pub first_order_above : ℕ → List Order → Option Order
first_order_above = first_above (λ (o : Order). o.number)

-- the due date with the least number above this one
abbrev pub first_due_above : ℕ → List Order → Option Forward
first_due_above number orders = first_above (λ (f : Forward). f.number) number (forwards_of orders)

-- so it is with each order whose number is above the lower one, and not above the higher one
abbrev pub Between : (Order → Type 0) → ℕ → ℕ → List Order → Type 0
Between Q low high = AllByRecursion (λ (o : Order). low < o.number → o.number ≤ high → Q o)

-- the order is of another date
abbrev pub IsOff : ℕ → Order → Type 0
IsOff date o = o.date ≢ date

-- it is, where it has no due date
abbrev pub IsPlainOff : ℕ → Order → Type 0
IsPlainOff date o = has_due o ≡ false → o.date ≢ date

-- it is, where it has a due date
abbrev pub IsDueOff : ℕ → Order → Type 0
IsDueOff date o = has_due o ≡ true → o.date ≢ date
