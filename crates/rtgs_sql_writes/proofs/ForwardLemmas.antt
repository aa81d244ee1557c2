-- What an INSERT of a due date does.
use Rattle.std.proofs.Common.{◌≡◌, ℕ, pos, List, [], ◌∷◌, ◌++◌, map, codes, Option, Some, None, Result, OnOk, refl}
use Rattle.std.proofs.Common.{append-nil, sym, ap, subst, ◌∙◌, arith}
use Rattle.sqlite.specs.declared.types.Value.TheVariants.{Null, Int, Text}
use Rattle.sqlite.specs.declared.error.Error.{Error}
use Rattle.sqlite.specs.Order.{Row}
use Rattle.sqlite.specs.Term.{Term, lit, col}
use Rattle.sqlite.specs.Source.TheVariants.{Values}
use Rattle.sqlite.specs.Command.TheVariants.{Insert}
use Rattle.sqlite.specs.Edit.{edit_of, edited}
use Rattle.sqlite.specs.Rowids.TheVariants.{Chosen}
use Rattle.sqlite.specs.Rows.{stamped}
use Rattle.sqlite.specs.Tree.{Trees, put_row}
use Rattle.sqlite.specs.Listing.{understood}
use Rattle.sqlite.specs.Effect.{Database, value_rows}
use Rattle.sqlite.specs.State.{State, ExecutesInside}
use Rattle.sqlite_tied.specs.Compute.{everything}
use Rattle.rtgs_sql_writes.specs.Staging.{with_order_row, with_forward}
use Rattle.rtgs_sql_writes.proofs.Casts.{cast_null, cast_int}
use Rattle.rtgs_sql_writes.specs.Building.{with_rows}
use Rattle.rtgs_sql_writes.proofs.Writing.{IsUnderstoodAs}
use Rattle.rtgs_sql_writes.proofs.Adding.{adds}
use Rattle.rtgs_book.specs.declared.order.Order.{Order}
use Rattle.rtgs_book.specs.declared.change.RowChange.TheVariants.{AddOrder}
use Rattle.rtgs_money.specs.Date.{date_text}
use Rattle.rtgs_rows.specs.Dues.{forward_for}
use Rattle.rtgs_rows.specs.declared.forward.Forward.{Forward}
use Rattle.rtgs_rows.specs.Rows.{forward_row}
use Rattle.rtgs_rows.specs.Content.{rows_in, Content, IsUnderWay, IsInOrder, with_change}
use Rattle.rtgs_rows.specs.Tables.{schema_in, forward_table as table}

abbrev pub forward_text : List ℕ
forward_text = codes "INSERT INTO forward (number, due) VALUES (?1, ?2)"

abbrev terms : List Term
terms = col 0 0 ∷ lit Null ∷ col 0 1 ∷ []

forward_means : IsUnderstoodAs forward_text (Insert 5 (Values terms 3))
unfolding understood everything schema_in
forward_means = record { is = refl; plain = (refl, refl) }

abbrev pub forward_given : Forward → Row
forward_given f = Int (pos f.number) ∷ Text (date_text f.due) ∷ []

edit : (trees : Trees) (f : Forward) → edited trees (edit_of trees table [] Chosen 0
    (value_rows (stamped table (forward_given f)) 3 1 terms)) ≡ put_row (forward_row f) (trees table.tree)
edit trees f = rw (cast_int (pos f.number), cast_null)

pub adds_forward : (was : Database) (content : Content) (old new : State) (number due : ℕ) (r : Result ℕ Error)
    (values : Row) → values ≡ forward_given (record { number = number; due = due }) → IsUnderWay was content old
    → IsInOrder (with_forward content number due)
    → ExecutesInside 0 forward_text values old new r → OnOk r (IsUnderWay was (with_forward content number due) new)
adds_forward was content old new number due r values same stands order h =
    let f : Forward = record { number = number; due = due } in
    adds forward_text 5 (omega arith) terms 3 forward_row (λ q. pos q.number) (λ _. refl) forward_means
    (forward_given f) f (λ trees. edit trees f) was content (with_forward content number due) content.forwards old new
    r stands (ap (rows_in table) stands.holds.rows) order.forwards
    (ap (with_rows table (map forward_row (content.forwards ++ f ∷ []))) stands.holds.rows)
    (subst (λ all. ExecutesInside 0 forward_text all old new r) same h)

-- ---- the rows of an order

-- the one row is all of an order without a due date
pub one_row : (c : Content) (o : Order) → o.due ≡ None → with_order_row c o ≡ with_change c (AddOrder o)
one_row c o none =
    let same : c.forwards ≡ c.forwards ++ forward_for o.number o.due = sym (append-nil c.forwards)
    ∙ ap (λ (due : Option ℕ). c.forwards ++ forward_for o.number due) (sym none) in
    λ i. record c { orders = c.orders ++ o ∷ []; forwards = same i }

-- the two rows are all of one with a due date
pub two_rows : (c : Content) (o : Order) (due : ℕ) → o.due ≡ Some due
    → with_forward (with_order_row c o) o.number due ≡ with_change c (AddOrder o)
two_rows c o due some =
    let same : c.forwards ++ forward_for o.number (Some due) ≡ c.forwards ++ forward_for o.number o.due =
    ap (λ (d : Option ℕ). c.forwards ++ forward_for o.number d) (sym some) in
    λ i. record c { orders = c.orders ++ o ∷ []; forwards = same i }
