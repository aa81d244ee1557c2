-- Looks at the tables, which write nothing.
use Rattle.std.specs.Prelude.{◌≡◌, ◌≢◌, ◌⊎◌, ℕ, pos, false, List, [], ◌∷◌, Option, Some, None, Err, Result}
use Rattle.std.specs.Prelude.{◌==◌, option_map, IfErr}
use Rattle.std.specs.List.{find}
use Rattle.sqlite.specs.Collation.TheVariants.{Binary}
use Rattle.sqlite.specs.declared.types.Value.TheVariants.{Int}
use Rattle.sqlite.specs.Order.{Row}
use Rattle.sqlite.specs.Query.{Query, IsAnswer}
use Rattle.sqlite.specs.Term.{Term, lit, col, op2}
use Rattle.sqlite.specs.Table.{Table}
use Rattle.sqlite.specs.Tree.{Trees}
use Rattle.sqlite.specs.State.{HasCleanDisk, Survives}
use Rattle.sqlite.specs.Held.{Held, state}
use Rattle.sqlite_sql.specs.Program.{overlay}
use Rattle.sqlite_sql.specs.declared.ops.BinaryOp.TheVariants.{Compare}
use Rattle.sqlite_sql.specs.declared.ops.CompareOp.TheVariants.{Eq, Gt}
use Rattle.sqlite_resolve.specs.Compile.{first}
use Rattle.sqlite_schema.specs.Names.{place_of}
use Rattle.sqlite_trees.specs.declared.store.Store.{Ghosts}
use Rattle.rtgs_book.specs.declared.fault.Fault.{Fault}
use Rattle.rtgs_book.specs.declared.fault.Fault.TheVariants.{OutOfMemory, StoreFault}
use Rattle.rtgs_rows.specs.TableRecords.{TableRecords}
use Rattle.rtgs_rows.specs.declared.forward.Forward.{Forward}
use Rattle.rtgs_sql_columns.specs.Numbers.{AreReadAs}
use Rattle.rtgs_sql_columns.specs.OneTable.{simple}
use Rattle.rtgs_sql_columns.specs.Tables.{column_names}
use Rattle.rtgs_sql_queries.specs.Answering.{KeepsTables, Returnless}
use Rattle.rtgs_sql_queries.specs.TableQueries.{Seeks, columns_of, rising_by}

-- the value alone, or nothing
abbrev pub one_of : {A : Type 0} → Option A → List A
one_of None = []
one_of (Some a) = a ∷ []

-- the due date under this number
abbrev pub due_under : ℕ → List Forward → Option ℕ
due_under number forwards =
    option_map (λ (f : Forward). f.due) (find (λ (f : Forward). f.number == number) forwards)

-- What a look leaves: nothing is written, and the tables stay unless the store failed. It fails by the store or for
-- lack of memory alone.
pub record IsLook {S A : Type 0} (g : Ghosts S) (old new : Held S) (result : Result A Fault) : Type 0 where
  pub survives : Survives (state g old) (state g new) (λ _. ⊥)
  pub mode : old.in_transaction ≡ false → new.in_transaction ≡ false
  pub same : HasCleanDisk (state g new) → result ≢ Err StoreFault → KeepsTables (state g old) (state g new)
  pub kinds : IfErr result (λ fault. (fault ≡ OutOfMemory) ⊎ (fault ≡ StoreFault))

-- ---- the first row that passes tests

-- the first row of the table, in the order of the numbers, that passes the tests
abbrev pub first_query : Table → List Term → Query
first_query t tests = record (simple t.tree tests (columns_of t) (rising_by (place_of t 0))) {
  limit = lit (Int (pos 1));
}

-- the text is that query, with this many parameters, and writes nothing
pub record IsFirstQuery (t : Table) (tests : List Term) (text : List ℕ) (count : ℕ) : Type 0 where
  pub seeks : Seeks text count (first_query t tests) (column_names t)
  pub reads : Returnless (first text)

-- what it answers over these trees tells this record, or none
abbrev pub ShowsFirst : {A : Type 0} → TableRecords A → List Term → Trees → Row → Option A → Type 0
ShowsFirst records tests trees params found = (rows : List Row)
    → IsAnswer (first_query records.table tests) (overlay trees []) params rows
    → AreReadAs records rows (one_of found)

-- the row's number is above the parameter
abbrev pub after_tests : List Term
after_tests = op2 (Compare Gt Binary) (col 1 0) (col 0 0) ∷ []

-- the row's number is the parameter
abbrev pub under_tests : List Term
under_tests = op2 (Compare Eq Binary) (col 1 0) (col 0 0) ∷ []

-- an order's date is the first parameter, and its number is above the second
abbrev pub order_after_tests : List Term
order_after_tests = op2 (Compare Eq Binary) (col 1 6) (col 0 0) ∷ op2 (Compare Gt Binary) (col 1 0) (col 0 1) ∷ []
