-- Orders, which are read from two tables: their rows do not say their due dates.
use Rattle.std.specs.Prelude.{◌≡◌, ◌≢◌, ◌⊎◌, ℕ, true, false, List, [], ◌∷◌, Some}
use Rattle.std.specs.List.{AllByRecursion}
use Rattle.sqlite.specs.Order.{Row}
use Rattle.rtgs_book.specs.declared.order.Order.{Order}
use Rattle.rtgs_book.specs.Books.{is_held}
use Rattle.rtgs_rows.specs.declared.forward.Forward.{Forward}
use Rattle.rtgs_rows.specs.TableRecords.{order_records, forward_records}
use Rattle.rtgs_sql_columns.specs.Numbers.{AreReadAs}

-- the first of these due dates is none of the order with this number
abbrev pub IsNotNext : ℕ → List Forward → Type 0
IsNotNext number [] = Unit {0}
IsNotNext number (f ∷ forwards) = f.number ≢ number

-- What comes of an order as its own row has it: it takes the first of the due dates that are left, if that has its
-- number; else it has none, and is not held. These due dates are left then.
abbrev pub Takes : Order → List Forward → Order → List Forward → Type 0
Takes undated forwards order left =
    ((due : ℕ) × (forwards ≡ record { number = undated.number; due = due } ∷ left)
    × (order ≡ record undated { due = Some due }))
    ⊎ ((is_held undated ≡ false) × IsNotNext undated.number forwards × (left ≡ forwards) × (order ≡ undated))

-- it is held, and the first of the due dates that are left is not its own
abbrev pub TakesNone : Order → List Forward → Type 0
TakesNone undated forwards = (is_held undated ≡ true) × IsNotNext undated.number forwards

-- The orders are those that come of these, one after another, and no due date is left. Where the numbers of both lists
-- rise, there are such orders exactly if each due date is under the number of an order, and each held order has one: a
-- law says so.
abbrev pub AreJoined : List Order → List Forward → List Order → Type 0
AreJoined [] forwards orders = (forwards ≡ []) × (orders ≡ [])
AreJoined (undated ∷ undated_orders) forwards [] = ⊥
AreJoined (undated ∷ undated_orders) forwards (order ∷ orders) =
    (left : List Forward) × Takes undated forwards order left × AreJoined undated_orders left orders

-- the rows of the two tables, in this order, are those of orders
pub record AreOrders (undated_orders dues : List Row) : Type 0 where
  pub plain : List Order
  pub forwards : List Forward
  pub orders : List Order
  pub plain_fit : AllByRecursion order_records.fits plain
  pub forwards_fit : AllByRecursion forward_records.fits forwards
  pub plain_read : AreReadAs order_records undated_orders plain
  pub forwards_read : AreReadAs forward_records dues forwards
  pub joined : AreJoined plain forwards orders
