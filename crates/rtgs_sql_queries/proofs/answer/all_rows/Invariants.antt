use Rattle.std.proofs.Common.{◌≡◌, ◌≤◌, false, [], vec_len}
use Rattle.sqlite.specs.State.{HasCleanDisk, IsUnchanged, Survives}
use Rattle.sqlite.specs.Held.{state}
use Rattle.sqlite.specs.Given.{HasGiven}
use Rattle.rtgs_sql_queries.proofs.answer.all_rows.Given as goal

abbrev pub invariant-rows : goal.invariant-rows
invariant-rows g l =
    let old = state g.S.Store l.fn.conn in
    let now = state g.S.Store l.rows.conn.now in
    (l.rows.conn.ghost_name ≡ l.initial.rows.conn.ghost_name)
    × (l.fn.conn.in_transaction ≡ false → l.rows.conn.now.in_transaction ≡ false)
    × Survives old now (λ _. ⊥)
    × (l._row ≤ vec_len l.all)
    × (HasCleanDisk now → HasGiven g.S.Store l.text [] l.rows.conn.now l.all.items × IsUnchanged old now)
