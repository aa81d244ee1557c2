use Rattle.std.proofs.Common.{[], ◌∷◌, ap, ◌∙◌}
use Rattle.sqlite.specs.declared.types.Value.TheVariants.{Text}
use Rattle.sqlite.specs.Values.{bound_value}
use Rattle.sqlite.specs.Held.{state}
use Rattle.rtgs_sql_writes.proofs.HoldingLemmas.{sets_credit}
use Rattle.rtgs_sql_writes.proofs.Keeps.{kept}
use Rattle.rtgs_sql_writes.proofs.Leading.{leads}
use Rattle.rtgs_sql_writes.proofs.statements.updates.set_credit.Goals as goal

pub returns-clause-kept : goal.returns-clause-kept
returns-clause-kept g c clean =
    kept g.S.Store _ _ c.args.tx.now.conn.now c.execute.new.self.conn.now c.execute.result _ c.execute.ensures.ended
    (c.execute.ensures.runs clean)

pub returns-clause-made : goal.returns-clause-made
returns-clause-made g c content order =
    let code = ap bound_value (c.text.ensures ∙ ap Text c.as_bytes.ensures.value) in
    let credit = ap bound_value c.credit_value.ensures.value in
    let old = state g.S.Store c.args.tx.now.conn.now in
    let new = state g.S.Store c.execute.new.self.conn.now in
    leads _ _ old new content _ c.execute.result
    (λ was stands runs. sets_credit c.args.code.now c.args.credit c.one_table_answers.ensures was content old new
    c.execute.result _
    (λ i. code i ∷ credit i ∷ []) stands order runs)
    c.execute.ensures.runs
