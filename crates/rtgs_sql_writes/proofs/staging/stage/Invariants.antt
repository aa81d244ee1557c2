use Rattle.std.proofs.Common.{◌≡◌, take}
use Rattle.std.specs.List.{AllByRecursion}
use Rattle.sqlite.specs.State.{HasCleanDisk, KeepsCommit, Survives}
use Rattle.sqlite.specs.Held.{state}
use Rattle.rtgs_rows.specs.Fitting.{FitsRow}
use Rattle.rtgs_rows.specs.Content.{Content, AreInOrder, with_changes}
use Rattle.rtgs_sql_writes.specs.Staging.{ChangesTables}
use Rattle.rtgs_sql_writes.proofs.staging.stage.Given as goal

abbrev pub invariant-loop-row : goal.invariant-loop-row
invariant-loop-row g l =
    let old = state g.S.Store l.fn.tx.conn.now in
    let now = state g.S.Store l.tx.conn.now in
    record {
      same_reference : l.tx.conn.ghost_name ≡ l.fn.tx.conn.ghost_name;
      survives : Survives old now (λ _. ⊥);
      kept : HasCleanDisk now → KeepsCommit old now;
      formed : AllByRecursion FitsRow (take l.row-index l.rows);
      made : (content : Content) → AreInOrder content l.rows
          → ChangesTables old now content (with_changes content (take l.row-index l.rows));
    }
