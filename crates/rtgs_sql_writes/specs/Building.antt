-- The tables as they are made.
use Rattle.std.specs.Prelude.{◌≡◌, ℕ, ◌+◌, ◌==◌, Bool, true, false, List, [], ◌∷◌, get_or, map, take, drop, Ok, IsTrue}
use Rattle.std.specs.Prelude.{if◌then◌else◌}
use Rattle.std.specs.List.{list_any}
use Rattle.sqlite.specs.Order.{Row}
use Rattle.sqlite.specs.Table.{Table}
use Rattle.sqlite.specs.Schema.{Schema}
use Rattle.sqlite.specs.Command.TheVariants.{CreateTable}
use Rattle.sqlite.specs.Compile.{table_defined_by}
use Rattle.sqlite.specs.Change.{created}
use Rattle.sqlite.specs.Effect.{Database}
use Rattle.sqlite.specs.State.{State}
use Rattle.sqlite.specs.Does.{lacks_sequence}
use Rattle.sqlite.specs.Listing.{understood}
use Rattle.sqlite.specs.Given.{IsPlain}
use Rattle.sqlite.proofs.Callers.{command_of, statement_of}
use Rattle.sqlite_catalog.specs.Change.{is_used}
use Rattle.rtgs_rows.specs.Content.{Tables, tables_for}
use Rattle.rtgs_rows.specs.Keeping.{first_content}
use Rattle.rtgs_rows.specs.Tables.{desk_table, known_tables, current_tables, with_tables, table_count}

-- inside a transaction, with the first N tables, and these rows in them
pub record IsBuilt (was : Database) (count : ℕ) (rows : Tables) (s : State) : Type 0 where
  pub is_open : IsTrue s.is_open
  pub inside : s.in_transaction ≡ true
  pub schema_is : s.now.schema ≡ with_tables count
  pub rows_are : map (λ (t : Table). s.now.trees t.tree) (take count known_tables) ≡ rows
  pub committed : s.committed ≡ was

abbrev with_rows_at : ℕ → List Row → List Table → Tables → Tables
with_rows_at tree rows (table ∷ tables) (old ∷ more) =
    (if table.tree == tree then rows else old) ∷ with_rows_at tree rows tables more
with_rows_at tree rows tables all = []

-- these rows in place of those of one table
abbrev pub with_rows : Table → List Row → Tables → Tables
with_rows table rows = with_rows_at table.tree rows current_tables

-- the tables of a new desk, except for the row of the first
abbrev pub all_but_the_first : Tables
all_but_the_first = with_rows desk_table [] (tables_for first_content)

-- whether something of the schema has the name of a table that the version lacks
abbrev pub takes_a_name : ℕ → Schema → Bool
takes_a_name version schema = list_any (λ (t : Table). is_used schema t.name) (drop (table_count version) known_tables)

-- the table at that place
abbrev pub table_at : ℕ → Table
table_at at = get_or current_tables at desk_table

-- as a text defines it, before it is given a tree
abbrev pub unplaced : ℕ → Table
unplaced at = record (table_at at) { tree = 0 }

-- the text makes that table, over those before it
pub record MakesTable (at : ℕ) (text : List ℕ) : Type 0 where
  pub command : command_of (understood (with_tables at) text) ≡ CreateTable
  pub whole : statement_of text (understood (with_tables at) text) ≡ text
  pub plain : IsPlain (understood (with_tables at) text)
  pub defined : table_defined_by text ≡ Ok (unplaced at)
  pub is : created (with_tables at) (unplaced at) ≡ with_tables (at + 1)
  pub uncounted : lacks_sequence (with_tables (at + 1)) ≡ false
