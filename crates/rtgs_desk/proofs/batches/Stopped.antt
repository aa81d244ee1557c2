-- Batches in which the store failed.
use Rattle.std.proofs.Common.{ℕ, true, false, Bool, cond, List, [], ◌∷◌, length, drop, Option, Some, None, Err, inl}
use Rattle.std.proofs.Common.{refl, arith}
use Rattle.std.specs.List.{AllByRecursion}
use Rattle.rtgs_book.specs.declared.book.Book.{Book}
use Rattle.rtgs_book.specs.declared.refusal.Refusal.{Refusal}
use Rattle.rtgs_book.specs.Outcome.{Reply}
use Rattle.rtgs_book.specs.Session.{is_store_fault, open_command, MayFind}
use Rattle.rtgs_laws.specs.repeats.Batch.{IsOrderOf}
use Rattle.rtgs_book.specs.declared.new_order.NewOrder.{NewOrder}
use Rattle.rtgs_desk.specs.batches.Batches.{order_of, orders_of, open_order, StopsAfter}
use Rattle.rtgs_desk.proofs.batches.Rows.{AreJudged, quiet}

pub all_orders : (sender : List ℕ) (rows : List NewOrder) → AllByRecursion (IsOrderOf sender) (orders_of sender rows)
all_orders sender [] = tt
all_orders sender (row ∷ rows) = (refl, all_orders sender rows)

-- The order that may have acted is the next one.
pub next_open : (sender : List ℕ) (rows : List NewOrder) (replies : List Reply) (stopped : Option Refusal)
    (mid found : Book) → AreJudged replies → StopsAfter (length replies) (length rows) stopped
    → MayFind mid (open_order sender rows replies stopped) found
    → MayFind mid (open_command (orders_of sender (drop (length replies) rows)) []) found
next_open sender [] [] None mid found all stops may = may
next_open sender (row ∷ rows) [] None mid found all stops may = absurd (omega (arith, stops))
next_open sender [] (r ∷ replies) None mid found all stops may = absurd (omega (arith, stops))
next_open sender (row ∷ rows) (r ∷ replies) None mid found all stops may =
    next_open sender rows replies None mid found all.1 (omega (arith, stops)) (rw (quiet r all.0) at may)
next_open sender [] [] (Some refusal) mid found all stops may = absurd (omega (arith, stops.0))
next_open sender (row ∷ rows) [] (Some refusal) mid found all stops may = by (is_store_fault (Err refusal)) may
  where
    by : (b : Bool) → MayFind mid (cond b (Some (order_of sender row)) None) found
        → MayFind mid (Some (order_of sender row)) found
    by true may = may
    by false may = inl may
next_open sender [] (r ∷ replies) (Some refusal) mid found all stops may = absurd (omega (arith, stops.0))
next_open sender (row ∷ rows) (r ∷ replies) (Some refusal) mid found all stops may =
    next_open sender rows replies (Some refusal) mid found all.1 (omega (arith, stops.0), stops.1)
    (rw (quiet r all.0) at may)
