-- What the UPDATE of the choice does, whether the day is automatic.
use Rattle.std.proofs.Common.{◌≡◌, ℕ, pos, Bool, List, [], ◌∷◌, map, filter, codes, true, Ok, Err, Result, OnOk, refl}
use Rattle.std.proofs.Common.{ap, subst, ◌∙◌, arith}
use Rattle.std.specs.List.Sorted.{IsPermutation}
use Rattle.sqlite.specs.declared.types.Value.TheVariants.{Null, Int}
use Rattle.sqlite.specs.declared.error.Error.{Error}
use Rattle.sqlite.specs.Order.{Row}
use Rattle.sqlite.specs.Term.{Term, lit, col, op2}
use Rattle.sqlite_sql.specs.Ops.{binary}
use Rattle.sqlite_sql.specs.declared.ops.BinaryOp.TheVariants.{Compare}
use Rattle.sqlite_sql.specs.declared.ops.CompareOp.TheVariants.{Eq}
use Rattle.sqlite.specs.Collation.TheVariants.{Binary}
use Rattle.sqlite.specs.Command.TheVariants.{Update}
use Rattle.sqlite.specs.Edit.{edit_of, edited}
use Rattle.sqlite_rules.specs.Calls.{ids_of}
use Rattle.sqlite.specs.Rowids.TheVariants.{Given}
use Rattle.sqlite.specs.Tree.{Trees}
use Rattle.sqlite.specs.Listing.{understood}
use Rattle.sqlite.specs.Effect.{Database}
use Rattle.sqlite.specs.State.{State, ExecutesInside}
use Rattle.sqlite.proofs.Callers.{one_permutation}
use Rattle.sqlite_tied.specs.Compute.{everything}
use Rattle.sqlite_value.proofs.OrderLemmas.{value_cmp-Int}
use Rattle.rtgs_sql_columns.specs.OneTable.{simple, passes, shows, OneTableAnswers}
use Rattle.rtgs_sql_writes.specs.Building.{with_rows}
use Rattle.rtgs_sql_writes.specs.Staging.{with_choice}
use Rattle.rtgs_sql_writes.proofs.Casts.{cast_null, cast_int}
use Rattle.rtgs_sql_writes.proofs.StateLemmas.{framed, stands_on}
use Rattle.rtgs_sql_writes.proofs.Writing.{IsUnderstoodAs, updated}
use Rattle.rtgs_sql_writes.proofs.Passing.{truth_of, same_number}
use Rattle.rtgs_rows.specs.declared.resolution_row.ResolutionRow.{ResolutionRow}
use Rattle.rtgs_rows.specs.Rows.{resolution_number, resolution_row, choice_row}
use Rattle.rtgs_rows.specs.Content.{rows_in, Content, IsUnderWay}
use Rattle.rtgs_rows.specs.Tables.{schema_in, resolution_table as table}

abbrev pub set_choice_text : List ℕ
set_choice_text = codes "UPDATE resolution SET automatic = ?1 WHERE id = 1"

abbrev tests : List Term
tests = op2 (Compare Eq Binary) (col 1 0) (lit (Int (pos 1))) ∷ []

abbrev project : List Term
project = col 1 0 ∷ col 1 0 ∷ lit Null ∷ col 0 0 ∷ []

set_choice_means : IsUnderstoodAs set_choice_text (Update 6
    (record { lets = []; body = simple table.tree tests project [] }))
unfolding understood everything schema_in
set_choice_means = record { is = refl; plain = (refl, refl) }

abbrev pub choice_given : Bool → Row
choice_given automatic = Int (pos (resolution_number automatic)) ∷ []

abbrev row_of : Bool → Row
row_of automatic = resolution_row (record { automatic = automatic })

passes_one : (automatic old : Bool) → passes tests (choice_given automatic) (row_of old) ≡ true
unfolding binary
passes_one automatic old = truth_of _ ∙ same_number 1 1

edit : (trees : Trees) (old automatic : Bool) (rows : List Row) → trees table.tree ≡ row_of old ∷ []
    → IsPermutation (map (shows project (choice_given automatic)) (row_of old ∷ [])) rows
    → edited trees (edit_of trees table (ids_of rows) Given 1 rows) ≡ row_of automatic ∷ []
edit trees old automatic rows are same =
    let one : rows ≡ shows project (choice_given automatic) (row_of old) ∷ [] = one_permutation _ rows same in
    rw (
      one,
      cast_int (pos 1),
      cast_null,
      cast_int (pos (resolution_number automatic)),
      are,
      value_cmp-Int (pos 1) (pos 1),
    )

pub sets_choice : OneTableAnswers → (was : Database) (content : Content) (old new : State) (automatic : Bool)
    (r : Result ℕ Error) (values : Row) → values ≡ choice_given automatic → IsUnderWay was content old
    → ExecutesInside 0 set_choice_text values old new r → OnOk r (IsUnderWay was (with_choice content automatic) new)
sets_choice answers was content old new automatic (Err e) values same stands h = tt
sets_choice answers was content old new automatic (Ok count) values same stands given =
    let h = subst (λ all. ExecutesInside 0 set_choice_text all old new (Ok count)) same given in
    let made = updated set_choice_text 6 (omega arith) old new (choice_given automatic) count stands.schema h.0 answers
    table.tree tests project set_choice_means in
    let here : old.now.trees table.tree ≡ choice_row content.day ∷ [] = ap (rows_in table) stands.holds.rows in
    let passed : filter (passes tests (choice_given automatic)) (old.now.trees table.tree)
    ≡ choice_row content.day ∷ [] = rw (here, passes_one automatic content.day.automatic) in
    let rows : new.now.trees table.tree ≡ row_of automatic ∷ [] = made.2.rows
    ∙ edit old.now.trees content.day.automatic automatic made.0 here (subst
    (λ f. IsPermutation (map (shows project (choice_given automatic)) f) made.0) passed made.1) in
    stands_on was old new content (with_choice content automatic) stands h.1 made.2.schema made.2.sound
    (framed table.tree old.now.trees new.now.trees _ rows made.2.frame
    ∙ ap (with_rows table (row_of automatic ∷ [])) stands.holds.rows)
