-- The due dates of orders, which stand in a table of their own.
use Rattle.std.specs.Prelude.{◌≡◌, ℕ, false, List, [], ◌∷◌, Option, Some, None}
use Rattle.std.specs.List.{flat_map}
use Rattle.rtgs_book.specs.declared.order.Order.{Order}
use Rattle.rtgs_book.specs.Books.{is_held}
use Rattle.rtgs_rows.specs.declared.forward.Forward.{Forward}

-- the order as its own table has it
abbrev pub without_due : Order → Order
without_due o = record o { due = None }

-- a row with this number for a due date, and none where there is no due date
abbrev pub forward_for : ℕ → Option ℕ → List Forward
forward_for number None = []
forward_for number (Some due) = record { number = number; due = due } ∷ []

-- a row for each order with a due date
abbrev pub forwards_of : List Order → List Forward
forwards_of orders = flat_map (λ (o : Order). forward_for o.number o.due) orders

-- the order is not held without a due date
abbrev pub IsHeldByDue : Order → Type 0
IsHeldByDue o = o.due ≡ None → is_held o ≡ false
