-- What the UPDATE of the date and of the phase of the business day does.
use Rattle.std.proofs.Common.{◌≡◌, ℕ, pos, List, [], ◌∷◌, map, filter, codes, true, Ok, Err, Result, OnOk, refl, ap}
use Rattle.std.proofs.Common.{subst, ◌∙◌, arith}
use Rattle.std.specs.List.Sorted.{IsPermutation}
use Rattle.sqlite.specs.declared.types.Value.TheVariants.{Null, Int}
use Rattle.sqlite.specs.declared.error.Error.{Error}
use Rattle.sqlite.specs.Order.{Row}
use Rattle.sqlite.specs.Term.{Term, lit, col, op2}
use Rattle.sqlite_sql.specs.Ops.{binary}
use Rattle.sqlite_sql.specs.declared.ops.BinaryOp.TheVariants.{Compare}
use Rattle.sqlite_sql.specs.declared.ops.CompareOp.TheVariants.{Eq}
use Rattle.sqlite.specs.Collation.TheVariants.{Binary}
use Rattle.sqlite.specs.Command.TheVariants.{Update}
use Rattle.sqlite.specs.Edit.{edit_of, edited}
use Rattle.sqlite_rules.specs.Calls.{ids_of}
use Rattle.sqlite.specs.Rowids.TheVariants.{Given}
use Rattle.sqlite.specs.Tree.{Trees}
use Rattle.sqlite.specs.Listing.{understood}
use Rattle.sqlite.specs.Effect.{Database}
use Rattle.sqlite.specs.State.{State, ExecutesInside}
use Rattle.sqlite.specs.Values.{bound_value}
use Rattle.sqlite.proofs.Callers.{one_permutation}
use Rattle.sqlite_tied.specs.Compute.{everything}
use Rattle.sqlite_value.proofs.OrderLemmas.{value_cmp-Int}
use Rattle.rtgs_sql_writes.proofs.Casts.{cast_null, cast_int, cast_date, bound_date}
use Rattle.rtgs_sql_columns.specs.OneTable.{simple, passes, shows, OneTableAnswers}
use Rattle.rtgs_sql_writes.specs.Building.{with_rows}
use Rattle.rtgs_sql_writes.proofs.StateLemmas.{framed, stands_on}
use Rattle.rtgs_sql_writes.proofs.Writing.{IsUnderstoodAs, updated}
use Rattle.rtgs_sql_writes.proofs.Passing.{truth_of, same_number}
use Rattle.rtgs_book.specs.declared.day.Day.{Day}
use Rattle.rtgs_rows.specs.declared.numbers.TheConstants.{VERSION}
use Rattle.rtgs_rows.specs.Rows.{date_value, phase_number, day_row}
use Rattle.rtgs_rows.specs.Content.{rows_in, Content, IsUnderWay}
use Rattle.rtgs_sql_writes.specs.Staging.{with_date}
use Rattle.rtgs_rows.specs.Tables.{schema_in, desk_table as table}

abbrev pub set_date_text : List ℕ
set_date_text = codes "UPDATE desk SET date = ?1, phase = ?2 WHERE id = 1"

abbrev tests : List Term
tests = op2 (Compare Eq Binary) (col 1 0) (lit (Int (pos 1))) ∷ []

abbrev project : List Term
project = col 1 0 ∷ col 1 0 ∷ lit Null ∷ col 1 2 ∷ col 0 0 ∷ col 0 1 ∷ []

set_date_means : IsUnderstoodAs set_date_text (Update 0
    (record { lets = []; body = simple table.tree tests project [] }))
unfolding understood everything schema_in
set_date_means = record { is = refl; plain = (refl, refl) }

abbrev params : Day → Row
params day = date_value day.date ∷ Int (pos (phase_number day.phase)) ∷ []

passes_one : (day old : Day) → passes tests (params day) (day_row VERSION old) ≡ true
unfolding binary
passes_one day old = truth_of _ ∙ same_number 1 1

edit : (trees : Trees) (old day : Day) (rows : List Row) → trees table.tree ≡ day_row VERSION old ∷ []
    → IsPermutation (map (shows project (params day)) (day_row VERSION old ∷ [])) rows
    → edited trees (edit_of trees table (ids_of rows) Given 1 rows) ≡ day_row VERSION day ∷ []
edit trees old day rows are same =
    let one : rows ≡ shows project (params day) (day_row VERSION old) ∷ [] = one_permutation _ rows same in
    rw (
      one,
      cast_int (pos 1),
      cast_int (pos VERSION),
      cast_null,
      cast_date day.date,
      cast_int (pos (phase_number day.phase)),
      are,
      value_cmp-Int (pos 1) (pos 1),
    )

abbrev pub day_given : Day → Row
day_given day = bound_value (date_value day.date) ∷ Int (pos (phase_number day.phase)) ∷ []

pub sets_date : OneTableAnswers → (was : Database) (content : Content) (old new : State) (day : Day) (r : Result ℕ
    Error) (values : Row)
    → values ≡ day_given day → IsUnderWay was content old
    → ExecutesInside 0 set_date_text values old new r → OnOk r (IsUnderWay was (with_date content day) new)
sets_date answers was content old new day (Err e) values same stands h = tt
sets_date answers was content old new day (Ok count) values same stands given =
    let h = subst (λ all. ExecutesInside 0 set_date_text all old new (Ok count)) (same ∙ ap (λ date. date ∷ Int (pos
    (phase_number day.phase)) ∷ []) (bound_date day.date)) given in
    let made = updated set_date_text 0 (omega arith) old new (params day) count stands.schema h.0 answers table.tree
    tests project set_date_means in
    let here : old.now.trees table.tree ≡ day_row VERSION content.day ∷ [] = ap (rows_in table) stands.holds.rows in
    let passed : filter (passes tests (params day)) (old.now.trees table.tree)
    ≡ day_row VERSION content.day ∷ [] = rw (here, passes_one day content.day) in
    let rows : new.now.trees table.tree ≡ day_row VERSION day ∷ [] = made.2.rows
    ∙ edit old.now.trees content.day day made.0 here (subst
    (λ f. IsPermutation (map (shows project (params day)) f) made.0) passed made.1) in
    stands_on was old new content (with_date content day) stands h.1 made.2.schema made.2.sound
    (framed table.tree old.now.trees new.now.trees _ rows made.2.frame
    ∙ ap (with_rows table (day_row VERSION day ∷ [])) stands.holds.rows)
