use Rattle.std.proofs.Common.{[], ◌∷◌, ap}
use Rattle.sqlite.specs.Values.{bound_value}
use Rattle.sqlite.specs.Held.{state}
use Rattle.rtgs_sql_writes.proofs.OrderLemmas.{sets_state}
use Rattle.rtgs_sql_writes.proofs.Keeps.{kept}
use Rattle.rtgs_sql_writes.proofs.Leading.{leads}
use Rattle.rtgs_sql_writes.proofs.statements.updates.set_state.Goals as goal

pub returns-clause-kept : goal.returns-clause-kept
returns-clause-kept g c clean =
    kept g.S.Store _ _ c.args.tx.now.conn.now c.execute.new.self.conn.now c.execute.result _ c.execute.ensures.ended
    (c.execute.ensures.runs clean)

pub returns-clause-made : goal.returns-clause-made
returns-clause-made g c content order =
    let number = ap bound_value c.number_value.ensures in
    let stage = ap bound_value c.state_value.ensures in
    let mark = ap bound_value c.mark_value.ensures in
    let old = state g.S.Store c.args.tx.now.conn.now in
    let new = state g.S.Store c.execute.new.self.conn.now in
    leads _ _ old new content _ c.execute.result
    (λ was stands runs. sets_state c.args.number c.args.stage c.one_table_answers.ensures was content old new
    c.execute.result _
    (λ i. number i ∷ stage i ∷ mark i ∷ []) stands order runs)
    c.execute.ensures.runs
