-- What a query leaves, and why it fails.
use Rattle.std.specs.Prelude.{◌≡◌, ◌⊎◌, ℕ, false, List, [], None, Ok, Err, Result, Vec, IfErr, OnOk, IsTrue}
use Rattle.std.specs.Global.{Global}
use Rattle.sqlite.specs.Order.{Row}
use Rattle.sqlite.specs.Tree.{Trees}
use Rattle.sqlite.specs.Held.{Held, state}
use Rattle.sqlite_trees.specs.declared.store.Store.{Ghosts}
use Rattle.rtgs_rows.specs.Content.{Content, RestsIn}
use Rattle.rtgs_rows.specs.Querying.{IsFileIn}
use Rattle.sqlite.specs.Schema.{Schema}
use Rattle.sqlite.specs.State.{State, HasCleanDisk, IsUnchanged, FailsToQuery, Survives}
use Rattle.sqlite.specs.declared.error.Error.{Error}
use Rattle.sqlite.specs.declared.error.Error.TheVariants.{SqliteFailure}
use Rattle.sqlite.specs.declared.error.ErrorCode.TheVariants.{OutOfMemory}
use Rattle.sqlite_syntax.specs.declared.statement.Parsed.{Parsed}
use Rattle.sqlite_resolve.specs.Lowering.{Checked}
use Rattle.sqlite_resolve.specs.Compile.{returning}
use Rattle.rtgs_sql_queries.specs.Faults.{IsOfStore}

-- the statement gives back no rows of a write
abbrev pub Returnless : Checked Parsed → Type 0
Returnless (Ok p) = (schema : Schema) (base : ℕ) → returning schema base p.statement ≡ Ok None
Returnless (Err e) = Unit {0}

-- the query failed, or memory was lacking for a row, and nothing changed
abbrev pub FailsAmid : List ℕ → State → State → Error → Type 0
FailsAmid text old new e = FailsToQuery text [] old new e ⊎ ((e ≡ SqliteFailure OutOfMemory) × IsUnchanged old new)

-- the tables stay, of whichever version they are and whatever their rows are, and so do the records that they hold
pub record KeepsTables (old new : State) : Type 0 where
  pub file : (version : ℕ) (trees : Trees) → IsFileIn version trees old → IsFileIn version trees new
  pub rests : (version : ℕ) (content : Content) → RestsIn version content old → RestsIn version content new

-- what a query leaves: nothing is written, and the tables stay where the connection stays open, and after an error that
-- is not of the store
pub record IsQuery {S : Type 0} (g : Ghosts S) (old new : Held S) (result : Result (Vec Row Global) Error)
    : Type 0 where
  pub survives : Survives (state g old) (state g new) (λ _. ⊥)
  pub mode : old.in_transaction ≡ false → new.in_transaction ≡ false
  pub kept : HasCleanDisk (state g new) → OnOk result (KeepsTables (state g old) (state g new))
  pub intact : HasCleanDisk (state g new) → IsTrue (state g new).is_open → KeepsTables (state g old) (state g new)
  pub foreign : HasCleanDisk (state g new)
      → IfErr result (λ error. ¬ IsOfStore error → KeepsTables (state g old) (state g new))
