-- What CREATE TABLE does.
use Rattle.std.proofs.Common.{◌≡◌, ℕ, ◌+◌, ◌-◌, ◌≤◌, pos, List, [], ◌∷◌, ◌++◌, map, replicate, true, false, Option}
use Rattle.std.proofs.Common.{None, Ok, Err, Result, OnOk, refl, sym, ap, ap₂, subst, ◌∙◌, arith}
use Rattle.std.proofs.lemmas.Grind.{common_steps}
use Rattle.rtgs_lists.proofs.Lists.{map_push}
use Rattle.sqlite.specs.Order.{Row}
use Rattle.sqlite.specs.declared.error.Error.{Error}
use Rattle.sqlite.specs.Table.{Table}
use Rattle.sqlite.specs.Schema.{Schema}
use Rattle.sqlite.specs.Command.TheVariants.{CreateTable}
use Rattle.sqlite.specs.Compile.{table_defined_by}
use Rattle.sqlite.specs.Change.{created, next_tree, KeepsRows}
use Rattle.sqlite.specs.declared.run.Mode.{Mode}
use Rattle.sqlite.specs.Does.{Tally, Does, lacks_sequence}
use Rattle.sqlite.specs.Tree.{Trees}
use Rattle.sqlite.specs.Effect.{Database, value_rows}
use Rattle.sqlite.specs.State.{State, mode_of, HasCleanDisk, Survives, Writes, ExecutesInside}
use Rattle.sqlite.proofs.Callers.{runs_as}
use Rattle.rtgs_book.specs.Books.{new_book}
use Rattle.rtgs_rows.specs.Tables.{desk_schema, with_tables, desk_table, resolution_table, table_count, schema_in}
use Rattle.rtgs_rows.specs.Content.{Tables, IsUnderWay, rows_in}
use Rattle.rtgs_rows.specs.Keeping.{first_content}
use Rattle.rtgs_rows.specs.Rows.{day_row, choice_row}
use Rattle.rtgs_rows.specs.declared.numbers.TheConstants.{VERSION}
use Rattle.sqlite.specs.declared.types.Value.TheVariants.{Int}
use Rattle.rtgs_sql_columns.specs.Blank.{IsBlank}
use Rattle.rtgs_sql_writes.specs.Building.{IsBuilt, MakesTable, unplaced, with_rows, all_but_the_first}
use Rattle.sqlite.specs.Rows.{stamped}
use Rattle.sqlite.specs.Edit.{edit_of, edited}
use Rattle.sqlite.specs.Rowids.TheVariants.{Chosen}
use Rattle.sqlite_catalog.specs.Listing.{IsSound}
use Rattle.sqlite_trees.specs.declared.store.Store.{Ghosts}
use Rattle.sqlite.specs.Held.{Held, state}
use Rattle.rtgs_sql_writes.proofs.Casts.{cast_null, cast_int}
use Rattle.rtgs_sql_writes.proofs.StateLemmas.{framed}
use Rattle.rtgs_sql_writes.specs.declared.create.TheConstants.{FIRST_DAY, FIRST_CHOICE}
use Rattle.rtgs_sql_writes.proofs.CreateTexts.{first_terms, first_day_means, choice_terms, first_choice_means}
use Rattle.rtgs_sql_writes.proofs.Writing.{inserted}
use Rattle.rtgs_sql_writes.proofs.Steps.{went, same_value}

-- what was done on a clean disk began on one
pub was_clean : (old new : State) → Survives old new (λ _. ⊥) → HasCleanDisk new → HasCleanDisk old
was_clean old new survives clean = let low = survives.clean in omega (arith, low)

record IsMade (db : Database) (table : Table) (after : Database) : Type 0 where
  pub schema : after.schema ≡ created db.schema table
  pub empty : after.trees (next_tree db.schema) ≡ []
  pub others : KeepsRows db.schema.tables db.trees after.trees

makes : (limit : Option ℕ) (mode : Mode) (params : Row) (db : Database) (text : List ℕ) (table : Table) (tally : Tally)
    (after : Database) → table_defined_by text ≡ Ok table → lacks_sequence (created db.schema table) ≡ false
    → Does limit mode params db text None CreateTable (Ok (tally, after)) → IsMade db table after
makes limit mode params db text table tally after defined plain h =
    let all = went h in
    let first = went all.1 in
    let made = first.1 in
    let same : made.table ≡ table = same_value (sym made.defined ∙ defined) in
    let schema : first.0.schema ≡ created db.schema table = made.is ∙ ap (created db.schema) same in
    let none : lacks_sequence first.0.schema ≡ false = ap lacks_sequence schema ∙ plain in
    let now : after ≡ first.0 = ap (λ (p : Tally × Database). p.1) (same_value all.2) ∙ same_value (rw none at first.2)
    in
    record {
      schema = ap (λ (d : Database). d.schema) now ∙ schema;
      empty = ap (λ (d : Database). d.trees (next_tree db.schema)) now ∙ made.empty;
      others = subst (λ (d : Database). KeepsRows db.schema.tables db.trees d.trees) (sym now) made.others;
    }

kept_rows : (tables : List Table) (old new : Trees) → KeepsRows tables old new
    → map (λ (t : Table). new t.tree) tables ≡ map (λ (t : Table). old t.tree) tables
kept_rows [] old new kept = refl
kept_rows (t ∷ tables) old new kept = ap₂ ◌∷◌ kept.0 (kept_rows tables old new kept.1)

built : (was : Database) (at : ℕ) (rows : Tables) (old new : State) (text : List ℕ) (count : ℕ)
    → IsBuilt was at rows old → MakesTable at text → ExecutesInside 0 text [] old new (Ok count)
    → IsBuilt was (at + 1) (rows ++ [] ∷ []) new
unfolding with_tables
built was at rows old new text count is it h =
    let schema = with_tables at in
    let w = subst (λ t. Writes old new None CreateTable t [] count) it.whole
    (runs_as text [] old new schema is.schema_is CreateTable it.command it.plain count h.0) in
    let db : Database = record { schema = schema; trees = old.now.trees } in
    let done = subst (λ s. Does old.step_limit (mode_of old) [] (record old.now { schema = s }) text None CreateTable
    (Ok (w.tally, new.now))) is.schema_is w.changed in
    let made = makes old.step_limit (mode_of old) [] db text (unplaced at) w.tally new.now it.defined
    (ap lacks_sequence it.is ∙ it.uncounted) done in
    let table : Table = record (unplaced at) { tree = next_tree schema } in
    let stored : map (λ (t : Table). new.now.trees t.tree) (schema.tables ++ table ∷ []) ≡ rows ++ [] ∷ [] =
    map_push (λ (t : Table). new.now.trees t.tree) schema.tables table
    ∙ ap₂ (λ (a b : Tables). a ++ b) (kept_rows schema.tables old.now.trees new.now.trees made.others ∙ is.rows_are)
    (ap (λ (r : List Row). r ∷ []) made.empty) in
    record {
      is_open = h.1.is_open;
      inside = h.1.mode;
      schema_is = made.schema ∙ it.is;
      rows_are = subst (λ (s : Schema). map (λ (t : Table). new.now.trees t.tree) s.tables ≡ rows ++ [] ∷ [])
          it.is stored;
      committed = h.1.committed_is ∙ is.committed;
    }

pub builds : (was : Database) (at : ℕ) (rows : Tables) (old new : State) (text : List ℕ) (r : Result ℕ Error)
    → IsBuilt was at rows old → MakesTable at text → ExecutesInside 0 text [] old new r
    → OnOk r (IsBuilt was (at + 1) (rows ++ [] ∷ []) new)
builds was at rows old new text (Ok count) is it h = built was at rows old new text count is it h
builds was at rows old new text (Err e) is it h = tt

-- with one more table than those from a place on
pub built_on : (was : Database) (from at : ℕ) (rows : Tables) (s : State) → from ≤ at
    → IsBuilt was (at + 1) ((rows ++ replicate (at - from) []) ++ [] ∷ []) s
    → IsBuilt was (at + 1) (rows ++ replicate (at + 1 - from) []) s
built_on was from at rows s low is =
    let next : at + 1 - from ≡ (at - from) + 1 = omega (arith, low) in
    let more : (rows ++ replicate (at - from) []) ++ [] ∷ [] ≡ rows ++ replicate ((at - from) + 1) [] =
    grind (arith, common_steps) in
    rw next (subst (λ r. IsBuilt was (at + 1) r s) more is)

-- the tables of the newest version are all that are made
pub newest : with_tables (table_count VERSION) ≡ desk_schema
unfolding with_tables schema_in
newest = refl

-- ---- the row of the choice

choice_edit : (trees : Trees) → trees resolution_table.tree ≡ []
    → edited trees (edit_of trees resolution_table [] Chosen 0
    (value_rows (stamped resolution_table []) 3 1 choice_terms)) ≡ (choice_row new_book.day ∷ [])
choice_edit trees none = rw (cast_int (pos 1), cast_null, cast_int (pos 0), none)

pub chooses : (was : Database) (rows : Tables) (old new : State) (r : Result ℕ Error)
    → rows_in resolution_table rows ≡ [] → IsBuilt was (table_count VERSION) rows old
    → ExecutesInside 0 FIRST_CHOICE.now [] old new r
    → OnOk r (IsBuilt was (table_count VERSION) (with_rows resolution_table (choice_row new_book.day ∷ []) rows) new)
chooses was rows old new (Err e) none is h = tt
chooses was rows old new (Ok count) none is h =
    let made = inserted FIRST_CHOICE.now 6 (omega arith) old new [] count (is.schema_is ∙ newest) h.0
    choice_terms 3 first_choice_means in
    let empty : old.now.trees resolution_table.tree ≡ [] = ap (rows_in resolution_table) is.rows_are ∙ none in
    let here : new.now.trees resolution_table.tree ≡ (choice_row new_book.day ∷ []) = made.rows
    ∙ choice_edit old.now.trees empty in
    record {
      is_open = h.1.is_open;
      inside = h.1.mode;
      schema_is = made.schema ∙ sym newest;
      rows_are = framed resolution_table.tree old.now.trees new.now.trees _ here made.frame
          ∙ ap (with_rows resolution_table (choice_row new_book.day ∷ [])) is.rows_are;
      committed = h.1.committed_is ∙ is.committed;
    }

-- ---- the row of the day

abbrev pub first_given : Row
first_given = Int (pos VERSION) ∷ []

first_edit : (trees : Trees) → trees desk_table.tree ≡ [] → edited trees (edit_of trees desk_table [] Chosen 0
    (value_rows (stamped desk_table first_given) 5 1 first_terms)) ≡ (day_row VERSION first_content.day ∷ [])
first_edit trees none = rw (cast_int (pos 1), cast_int (pos VERSION), cast_null, cast_int (pos 0), none)

begun : (was : Database) (old new : State) (count : ℕ)
    → IsBuilt was (table_count VERSION) all_but_the_first old
    → ExecutesInside 0 FIRST_DAY.now first_given old new (Ok count) → IsUnderWay was first_content new
begun was old new count is h =
    let made = inserted FIRST_DAY.now 0 (omega arith) old new first_given count (is.schema_is ∙ newest) h.0
    first_terms 5 first_day_means in
    let none : old.now.trees desk_table.tree ≡ [] = ap (rows_in desk_table) is.rows_are in
    let rows : new.now.trees desk_table.tree ≡ (day_row VERSION first_content.day ∷ []) = made.rows
    ∙ first_edit old.now.trees none in
    record {
      is_open = h.1.is_open;
      inside = h.1.mode;
      schema = made.schema;
      holds = record {
        sound = subst (λ s. IsSound s new.now.trees) made.schema made.sound;
        rows = framed desk_table.tree old.now.trees new.now.trees _ rows made.frame
            ∙ ap (with_rows desk_table (day_row VERSION first_content.day ∷ [])) is.rows_are;
      };
      committed = h.1.committed_is ∙ is.committed;
    }

pub begins : (was : Database) (old new : State) (r : Result ℕ Error) (values : Row) → values ≡ first_given
    → IsBuilt was (table_count VERSION) all_but_the_first old
    → ExecutesInside 0 FIRST_DAY.now values old new r
    → OnOk r (IsUnderWay was first_content new)
begins was old new (Ok count) values same is h = begun was old new count is
    (subst (λ all. ExecutesInside 0 FIRST_DAY.now all old new (Ok count)) same h)
begins was old new (Err e) values same is h = tt

pub built_begun : {S : Type 0} (g : Ghosts S) (h : Held S) → IsBlank (state g h)
    → IsBuilt (state g h).committed 0 [] (state g (record h { in_transaction = true }))
unfolding with_tables
built_begun g h blank = record {
  is_open = blank.is_open;
  inside = refl;
  schema_is = ap (λ (d : Database). d.schema) blank.clean ∙ blank.schema;
  rows_are = refl;
  committed = refl;
}
