-- What an INSERT or an UPDATE does to the tables.
use Rattle.std.proofs.Common.{◌≡◌, ℕ, ◌<◌, ◌/◌, List, [], length, map, filter, None, Ok, refl, subst}
use Rattle.std.specs.List.Sorted.{IsPermutation}
use Rattle.sqlite.specs.declared.types.Value.TheVariants.{Null}
use Rattle.sqlite.specs.Order.{Row}
use Rattle.sqlite.specs.Term.{Term}
use Rattle.sqlite.specs.Table.{Table}
use Rattle.sqlite.specs.Source.TheVariants.{Values}
use Rattle.sqlite.specs.Command.{Command}
use Rattle.sqlite.specs.Command.TheVariants.{Insert, Update}
use Rattle.sqlite.specs.Edit.{Edit, edit_of, edited}
use Rattle.sqlite_rules.specs.Calls.{ids_of}
use Rattle.sqlite.specs.Rowids.TheVariants.{Chosen, Given}
use Rattle.sqlite.specs.declared.run.Mode.{Mode}
use Rattle.sqlite.specs.Does.{Does}
use Rattle.sqlite.specs.Rows.{stamped}
use Rattle.sqlite_schema.specs.declared.program.Program.{Program}
use Rattle.sqlite_sql.specs.Program.{overlay}
use Rattle.sqlite.specs.Tree.{Trees}
use Rattle.sqlite.specs.Listing.{understood}
use Rattle.sqlite.specs.Effect.{IsDatabase, value_rows}
use Rattle.sqlite.specs.State.{State, mode_of, Executes}
use Rattle.sqlite.proofs.Callers.{IsPlain, command_of, statement_of, runs_as}
use Rattle.rtgs_rows.specs.Tables.{desk_table, current_tables, desk_schema, schema_in}
use Rattle.rtgs_sql_writes.specs.Building.{table_at}
use Rattle.rtgs_sql_writes.proofs.Lists.{EachAt, each_at}
use Rattle.rtgs_sql_writes.proofs.StateLemmas.{desk_over, frame_but}
use Rattle.rtgs_sql_writes.proofs.Steps.{IsPlainTable, inserts, updates}
use Rattle.rtgs_sql_columns.specs.OneTable.{simple, passes, shows, OneTableAnswers}

-- one table has been edited, and the others stay
pub record Edits (table : Table) (edit : Trees → Edit) (old new : State) : Type 0 where
  pub schema : new.now.schema ≡ desk_schema
  pub rows : new.now.trees table.tree ≡ edited old.now.trees (edit old.now.trees)
  pub frame : frame_but table.tree old.now.trees new.now.trees
  pub sound : IsDatabase new.now

-- the text is this command on the tables
pub record IsUnderstoodAs (text : List ℕ) (command : Command) : Type 0 where
  pub is : command_of (understood desk_schema text) ≡ command
  pub plain : IsPlain (understood desk_schema text)

-- no foreign key acts on the rows of a table
all_plain : (trees : Trees) (mode : Mode) → EachAt (IsPlainTable (desk_over trees) mode) current_tables
unfolding schema_in
all_plain trees mode = assumption refl

-- the table stands at that place of the schema
module _ (text : List ℕ) (at : ℕ) (low : at < length current_tables) (old new : State) (params : Row) (count : ℕ)
    (has : old.now.schema ≡ desk_schema) (h : Executes text params old new (Ok count)) where
  is_plain : IsPlainTable (desk_over old.now.trees) (mode_of old) at (table_at at)
  is_plain = each_at (IsPlainTable (desk_over old.now.trees) (mode_of old)) current_tables
      (all_plain old.now.trees (mode_of old)) at desk_table low

  pub inserted : (terms : List Term) (width : ℕ) → IsUnderstoodAs text (Insert at (Values terms width))
      → Edits (table_at at) (λ trees. edit_of trees (table_at at) [] Chosen 0
      (value_rows (stamped (table_at at) params) width (length terms / width) terms)) old new
  inserted terms width it =
      let w = runs_as text params old new desk_schema has (Insert at (Values terms width)) it.is it.plain count h in
      let whole = statement_of text (understood desk_schema text) in
      let done = subst (λ s. Does old.step_limit (mode_of old) params (record old.now { schema = s }) whole None
      (Insert at (Values terms width)) (Ok (w.tally, new.now))) has w.changed in
      let step = inserts old.step_limit (mode_of old) params (desk_over old.now.trees) whole at (table_at at) w.tally
      new.now is_plain terms width done in
      record { schema = step.schema; rows = step.applies.rows; frame = step.applies.tables; sound = w.sound }

  -- what the query of the update gives, and what is done with it
  pub updated : OneTableAnswers → (tree : ℕ) (tests project : List Term)
      → IsUnderstoodAs text (Update at (record { lets = []; body = simple tree tests project [] }))
      → (rows : List Row) × IsPermutation (map (shows project params)
      (filter (passes tests params) (overlay old.now.trees [] tree))) rows
      × Edits (table_at at) (λ trees. edit_of trees (table_at at) (ids_of rows) Given 1 rows) old new
  updated answers tree tests project it =
      let q : Program = record { lets = []; body = simple tree tests project [] } in
      let w = runs_as text params old new desk_schema has (Update at q) it.is it.plain count h in
      let whole = statement_of text (understood desk_schema text) in
      let done = subst (λ s. Does old.step_limit (mode_of old) params (record old.now { schema = s }) whole None
      (Update at q) (Ok (w.tally, new.now))) has w.changed in
      let made = updates old.step_limit (mode_of old) params (desk_over old.now.trees) whole at (table_at at) w.tally
      new.now is_plain q done in
      let sorted = answers.sorted tree tests project [] _ params made.0 (made.1.answer Null) in (
        made.0,
        answers.shown (simple tree tests project []) params _ made.0 sorted,
        record {
          schema = made.2.schema;
          rows = made.2.applies.rows;
          frame = made.2.applies.tables;
          sound = w.sound;
        },
      )
