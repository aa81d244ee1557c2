-- The parts of a change, and what a stop leaves where it was written.
use Rattle.std.specs.Prelude.{ℕ, Bool, List, [], ◌∷◌, ◌++◌}
use Rattle.std.specs.List.{AllByRecursion}
use Rattle.sqlite.specs.Tree.{Trees}
use Rattle.sqlite.specs.Effect.{Database}
use Rattle.sqlite.specs.State.{State, HasCleanDisk}
use Rattle.rtgs_book.specs.declared.day.Day.{Day}
use Rattle.rtgs_book.specs.declared.order.Order.{Order}
use Rattle.rtgs_book.specs.declared.change.RowChange.{RowChange}
use Rattle.rtgs_rows.specs.Content.{Content, Holds, IsUnderWay, Rests, AreInOrder, with_changes}
use Rattle.rtgs_rows.specs.Fitting.{FitsRow}

-- One part of a change, between these two states of a transaction: tables with the one records become tables with the
-- other. A part may be one statement, or the parts that come one after another, each from where the one before it ends.
abbrev pub ChangesTables : State → State → Content → Content → Type 0
ChangesTables old new before after =
    HasCleanDisk new → (was : Database) → IsUnderWay was before old → IsUnderWay was after new

-- the records with the row of one more order, which does not say its due date
abbrev pub with_order_row : Content → Order → Content
with_order_row c o = record c { orders = c.orders ++ o ∷ [] }

-- and with the row of one more due date, under this number
abbrev pub with_forward : Content → ℕ → ℕ → Content
with_forward c number due = record c { forwards = c.forwards ++ record { number = number; due = due } ∷ [] }

-- the records with the date and the phase of a day, and the choice as it was
abbrev pub with_date : Content → Day → Content
with_date c day = record c { day = record day { automatic = c.day.automatic } }

-- and with this choice, whether the day is automatic
abbrev pub with_choice : Content → Bool → Content
with_choice c automatic = record c { day = record c.day { automatic = automatic } }

-- Each value of the rows is in its form and range, and whatever records the tables held before, they hold these after
-- the rows.
pub record HoldsChange (old : State) (rows : List RowChange) (trees : Trees) : Type 0 where
  pub formed : AllByRecursion FitsRow rows
  pub holds : (content : Content) → Rests content old → AreInOrder content rows
      → Holds (with_changes content rows) trees
