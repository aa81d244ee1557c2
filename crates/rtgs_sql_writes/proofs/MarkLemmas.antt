-- What an INSERT of a mark does.
use Rattle.std.proofs.Common.{◌≡◌, ℕ, pos, List, [], ◌∷◌, ◌++◌, map, codes, Result, OnOk, refl, ap, subst, arith}
use Rattle.sqlite.specs.declared.types.Value.TheVariants.{Null, Int, Text}
use Rattle.sqlite.specs.declared.error.Error.{Error}
use Rattle.sqlite.specs.Order.{Row}
use Rattle.sqlite.specs.Term.{Term, lit, col}
use Rattle.sqlite.specs.Source.TheVariants.{Values}
use Rattle.sqlite.specs.Command.TheVariants.{Insert}
use Rattle.sqlite.specs.Edit.{edit_of, edited}
use Rattle.sqlite.specs.Rowids.TheVariants.{Chosen}
use Rattle.sqlite.specs.Rows.{stamped}
use Rattle.sqlite.specs.Tree.{Trees, put_row}
use Rattle.sqlite.specs.Listing.{understood}
use Rattle.sqlite.specs.Effect.{Database, value_rows}
use Rattle.sqlite.specs.State.{State, ExecutesInside}
use Rattle.sqlite_tied.specs.Compute.{everything}
use Rattle.rtgs_sql_writes.proofs.Casts.{cast_null, cast_int}
use Rattle.rtgs_sql_writes.specs.Building.{with_rows}
use Rattle.rtgs_sql_writes.proofs.Writing.{IsUnderstoodAs}
use Rattle.rtgs_sql_writes.proofs.Adding.{adds}
use Rattle.rtgs_book.specs.declared.mark.Mark.{Mark}
use Rattle.rtgs_book.specs.declared.change.RowChange.TheVariants.{AddMark}
use Rattle.rtgs_money.specs.Date.{date_text}
use Rattle.rtgs_rows.specs.Rows.{mark_row}
use Rattle.rtgs_rows.specs.Content.{rows_in, Content, IsUnderWay, IsInOrder, with_change}
use Rattle.rtgs_rows.specs.Tables.{schema_in, mark_table as table}

abbrev pub mark_text : List ℕ
mark_text = codes "INSERT INTO mark (number, date, many, value) VALUES (?1, ?2, ?3, ?4)"

abbrev terms : List Term
terms = col 0 0 ∷ lit Null ∷ col 0 1 ∷ col 0 2 ∷ col 0 3 ∷ []

mark_means : IsUnderstoodAs mark_text (Insert 4 (Values terms 5))
unfolding understood everything schema_in
mark_means = record { is = refl; plain = (refl, refl) }

abbrev pub mark_given : Mark → Row
mark_given m = Int (pos m.number) ∷ Text (date_text m.date) ∷ Int (pos m.count) ∷ Int m.value ∷ []

edit : (trees : Trees) (m : Mark) → edited trees (edit_of trees table [] Chosen 0
    (value_rows (stamped table (mark_given m)) 5 1 terms)) ≡ put_row (mark_row m) (trees table.tree)
edit trees m = rw (cast_int (pos m.number), cast_null, cast_int (pos m.count), cast_int m.value)

pub adds_mark : (was : Database) (content : Content) (old new : State) (m : Mark) (r : Result ℕ Error) (values : Row)
    → values ≡ mark_given m → IsUnderWay was content old → IsInOrder (with_change content (AddMark m))
    → ExecutesInside 0 mark_text values old new r → OnOk r (IsUnderWay was (with_change content (AddMark m)) new)
adds_mark was content old new m r values same stands order h =
    adds mark_text 4 (omega arith) terms 5 mark_row (λ q. pos q.number) (λ _. refl) mark_means (mark_given m) m
    (λ trees. edit trees m) was content (with_change content (AddMark m)) content.marks old new r stands
    (ap (rows_in table) stands.holds.rows) order.marks
    (ap (with_rows table (map mark_row (content.marks ++ m ∷ []))) stands.holds.rows)
    (subst (λ all. ExecutesInside 0 mark_text all old new r) same h)
