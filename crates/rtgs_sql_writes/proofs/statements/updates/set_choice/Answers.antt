use Rattle.std.proofs.Common.{[], ◌∷◌, ap}
use Rattle.sqlite.specs.Values.{bound_value}
use Rattle.sqlite.specs.Held.{state}
use Rattle.rtgs_sql_writes.proofs.ChoiceLemmas.{sets_choice}
use Rattle.rtgs_sql_writes.proofs.Keeps.{kept}
use Rattle.rtgs_sql_writes.proofs.Leading.{leads}
use Rattle.rtgs_sql_writes.proofs.statements.updates.set_choice.Goals as goal

pub returns-clause-kept : goal.returns-clause-kept
returns-clause-kept g c clean =
    kept g.S.Store _ _ c.args.tx.now.conn.now c.execute.new.self.conn.now c.execute.result _ c.execute.ensures.ended
    (c.execute.ensures.runs clean)

pub returns-clause-made : goal.returns-clause-made
returns-clause-made g c content =
    let choice = ap bound_value c.resolution_value.ensures in
    let old = state g.S.Store c.args.tx.now.conn.now in
    let new = state g.S.Store c.execute.new.self.conn.now in
    leads _ _ old new content _ c.execute.result
    (λ was stands runs. sets_choice c.one_table_answers.ensures was content old new c.args.automatic
    c.execute.result _ (λ i. choice i ∷ []) stands runs)
    c.execute.ensures.runs
