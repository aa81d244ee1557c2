-- What the UPDATE of the version does, and how tables of an earlier version grow.
use Rattle.std.proofs.Common.{◌≡◌, ℕ, pos, List, [], ◌∷◌, map, filter, codes, true, Ok, Err, Result, OnOk, refl, ap}
use Rattle.std.proofs.Common.{◌-◌, ◌<◌, ◌≤◌, ◌++◌, replicate, subst, sym, ◌∙◌, arith}
use Rattle.rtgs_lists.proofs.Lists.{all_get}
use Rattle.std.specs.List.Sorted.{IsPermutation}
use Rattle.sqlite.specs.declared.types.Value.TheVariants.{Null, Int}
use Rattle.sqlite.specs.declared.error.Error.{Error}
use Rattle.sqlite.specs.Order.{Row}
use Rattle.sqlite.specs.Term.{Term, lit, col, op2}
use Rattle.sqlite_sql.specs.Ops.{binary}
use Rattle.sqlite_sql.specs.declared.ops.BinaryOp.TheVariants.{Compare}
use Rattle.sqlite_sql.specs.declared.ops.CompareOp.TheVariants.{Eq}
use Rattle.sqlite.specs.Collation.TheVariants.{Binary}
use Rattle.sqlite.specs.Command.TheVariants.{Update}
use Rattle.sqlite.specs.Edit.{edit_of, edited}
use Rattle.sqlite_rules.specs.Calls.{ids_of}
use Rattle.sqlite.specs.Rowids.TheVariants.{Given}
use Rattle.sqlite.specs.Tree.{Trees}
use Rattle.sqlite.specs.Held.{Held, state}
use Rattle.sqlite.specs.Listing.{understood}
use Rattle.sqlite.specs.Effect.{Database}
use Rattle.sqlite.specs.State.{State, ExecutesInside}
use Rattle.sqlite.proofs.Callers.{one_permutation}
use Rattle.sqlite_tied.specs.Compute.{everything}
use Rattle.sqlite_trees.specs.declared.store.Store.{Ghosts}
use Rattle.sqlite_value.proofs.OrderLemmas.{value_cmp-Int}
use Rattle.sqlite_catalog.specs.Listing.{IsSound}
use Rattle.rtgs_sql_writes.proofs.Casts.{cast_null, cast_int, cast_date}
use Rattle.rtgs_sql_columns.specs.OneTable.{simple, passes, shows, OneTableAnswers}
use Rattle.rtgs_sql_writes.proofs.StateLemmas.{framed}
use Rattle.rtgs_sql_writes.proofs.Writing.{IsUnderstoodAs, updated}
use Rattle.rtgs_sql_writes.proofs.Passing.{truth_of, same_number}
use Rattle.rtgs_sql_writes.specs.Building.{IsBuilt, with_rows}
use Rattle.rtgs_sql_writes.proofs.CreateLemmas.{newest}
use Rattle.rtgs_book.specs.declared.day.Day.{Day}
use Rattle.rtgs_rows.specs.declared.numbers.TheConstants.{VERSION}
use Rattle.rtgs_book.specs.Books.{new_book}
use Rattle.rtgs_rows.specs.Rows.{day_row, choice_row, phase_number}
use Rattle.rtgs_rows.specs.Content.{Tables, rows_in, tables_of_in, all_tables, tables_for_in, Content, IsUnderWay}
use Rattle.rtgs_rows.specs.Content.{RestsIn}
use Rattle.rtgs_rows.specs.Migrating.{HasNoMore}
use Rattle.rtgs_rows.specs.Tables.{schema_in, with_tables, table_count, resolution_table, versions, IsVersion}
use Rattle.rtgs_rows.specs.Tables.{desk_table as table}

abbrev pub set_version_text : List ℕ
set_version_text = codes "UPDATE desk SET version = ?1 WHERE id = 1"

abbrev tests : List Term
tests = op2 (Compare Eq Binary) (col 1 0) (lit (Int (pos 1))) ∷ []

abbrev project : List Term
project = col 1 0 ∷ col 1 0 ∷ lit Null ∷ col 0 0 ∷ col 1 3 ∷ col 1 4 ∷ []

set_version_means : IsUnderstoodAs set_version_text (Update 0
    (record { lets = []; body = simple table.tree tests project [] }))
unfolding understood everything schema_in
set_version_means = record { is = refl; plain = (refl, refl) }

abbrev pub version_given : Row
version_given = Int (pos VERSION) ∷ []

passes_one : (version : ℕ) (old : Day) → passes tests version_given (day_row version old) ≡ true
unfolding binary
passes_one version old = truth_of _ ∙ same_number 1 1

edit : (trees : Trees) (version : ℕ) (day : Day) (rows : List Row) → trees table.tree ≡ day_row version day ∷ []
    → IsPermutation (map (shows project version_given) (day_row version day ∷ [])) rows
    → edited trees (edit_of trees table (ids_of rows) Given 1 rows) ≡ day_row VERSION day ∷ []
edit trees version day rows are same =
    let one : rows ≡ shows project version_given (day_row version day) ∷ [] = one_permutation _ rows same in
    rw (
      one,
      cast_int (pos 1),
      cast_null,
      cast_int (pos VERSION),
      cast_date day.date,
      cast_int (pos (phase_number day.phase)),
      are,
      value_cmp-Int (pos 1) (pos 1),
    )

pub sets_version : OneTableAnswers → (was : Database) (version : ℕ) (content : Content) (old new : State)
    (r : Result ℕ Error) (values : Row) → values ≡ version_given
    → IsBuilt was (table_count VERSION) (all_tables version content) old
    → ExecutesInside 0 set_version_text values old new r → OnOk r (IsUnderWay was content new)
sets_version answers was version content old new (Err e) values same is h = tt
sets_version answers was version content old new (Ok count) values same is given =
    let h = subst (λ all. ExecutesInside 0 set_version_text all old new (Ok count)) same given in
    let made = updated set_version_text 0 (omega arith) old new version_given count (is.schema_is ∙ newest) h.0
    answers table.tree tests project set_version_means in
    let here : old.now.trees table.tree ≡ day_row version content.day ∷ [] = ap (rows_in table) is.rows_are in
    let passed : filter (passes tests version_given) (old.now.trees table.tree)
    ≡ day_row version content.day ∷ [] = rw (here, passes_one version content.day) in
    let rows : new.now.trees table.tree ≡ day_row VERSION content.day ∷ [] = made.2.rows
    ∙ edit old.now.trees version content.day made.0 here (subst
    (λ f. IsPermutation (map (shows project version_given) f) made.0) passed made.1) in
    record {
      is_open = h.1.is_open;
      inside = h.1.mode;
      schema = made.2.schema;
      holds = record {
        sound = subst (λ s. IsSound s new.now.trees) made.2.schema made.2.sound;
        rows = framed table.tree old.now.trees new.now.trees _ rows made.2.frame
            ∙ ap (with_rows table (day_row VERSION content.day ∷ [])) is.rows_are;
      };
      committed = h.1.committed_is ∙ is.committed;
    }

begun_schema : (version : ℕ) → schema_in version ≡ with_tables (table_count version)
unfolding with_tables schema_in
begun_schema version = refl

pub built_before : {S : Type 0} (g : Ghosts S) (h : Held S) (version : ℕ) (content : Content)
    → RestsIn version content (state g h) → IsBuilt (state g h).committed (table_count version)
    (tables_for_in version content) (state g (record h { in_transaction = true }))
built_before g h version content rests = record {
  is_open = rests.is_open;
  inside = refl;
  schema_is = ap (λ (d : Database). d.schema) rests.clean ∙ rests.schema ∙ begun_schema version;
  rows_are = ap (λ (d : Database). tables_of_in version d.trees) rests.clean ∙ rests.holds.rows;
  committed = refl;
}

-- ---- the tables that a version lacks

abbrev grown : ℕ → Content → Tables
grown version content = tables_for_in version content ++ replicate (table_count VERSION - table_count version) []

-- an earlier version lacks that of the choice
pub unchosen : (version : ℕ) (content : Content) → IsVersion version → version < VERSION
    → rows_in resolution_table (grown version content) ≡ []
unchosen version content known = all_get (λ v. v < VERSION → rows_in resolution_table (grown v content) ≡ []) versions
    known.0 version known.1 (sym known.2) (λ low. refl, (λ low. refl, (λ low. absurd (omega (arith, low)), tt)))

-- and with its row, these and the new ones are all
pub all_there : (version : ℕ) (content : Content) → IsVersion version → HasNoMore version content → version < VERSION
    → with_rows resolution_table (choice_row new_book.day ∷ []) (grown version content) ≡ all_tables version content
all_there version content known = all_get (λ v. HasNoMore v content → v < VERSION
    → with_rows resolution_table (choice_row new_book.day ∷ []) (grown v content) ≡ all_tables v content) versions
    known.0 version known.1 (sym known.2) (
      λ none low. ap (λ (more : Tables). tables_for_in 1 content ++ more) (sym none),
      (
        λ none low. ap (λ (more : Tables). tables_for_in 2 content ++ more) (sym none),
        (λ none low. absurd (omega (arith, low)), tt),
      ),
    )

-- the newest lacks none
pub nothing_lacks : (version : ℕ) (content : Content) → version ≤ VERSION → VERSION ≤ version
    → grown version content ≡ all_tables version content
nothing_lacks version content low high =
    let is : VERSION ≡ version = omega (arith, low, high) in
    subst (λ v. grown v content ≡ all_tables v content) is refl
