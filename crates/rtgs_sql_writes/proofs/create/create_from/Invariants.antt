use Rattle.std.proofs.Common.{◌≡◌, ◌-◌, [], ◌++◌, replicate}
use Rattle.sqlite.specs.Effect.{Database}
use Rattle.sqlite.specs.State.{HasCleanDisk, KeepsCommit, Survives}
use Rattle.sqlite.specs.Held.{state}
use Rattle.rtgs_rows.specs.Content.{Tables}
use Rattle.rtgs_sql_writes.specs.Building.{IsBuilt}
use Rattle.rtgs_sql_writes.proofs.create.create_from.Given as goal

abbrev pub invariant-loop-at : goal.invariant-loop-at
invariant-loop-at g l =
    let old = state g.S.Store l.fn.tx.conn.now in
    let now = state g.S.Store l.tx.conn.now in
    record {
      same_reference : l.tx.conn.ghost_name ≡ l.fn.tx.conn.ghost_name;
      survives : Survives old now (λ _. ⊥);
      kept : HasCleanDisk now → KeepsCommit old now;
      made : HasCleanDisk now → (was : Database) (rows : Tables) → IsBuilt was l.from rows old
          → IsBuilt was l.at (rows ++ replicate (l.at - l.from) []) now;
    }
