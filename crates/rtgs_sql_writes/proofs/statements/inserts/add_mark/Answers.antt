use Rattle.std.proofs.Common.{[], ◌∷◌, Some, ap, ◌∙◌}
use Rattle.sqlite.specs.declared.types.Value.TheVariants.{Text}
use Rattle.sqlite.specs.Values.{or_null, bound_value}
use Rattle.sqlite.specs.Held.{state}
use Rattle.rtgs_sql_writes.proofs.MarkLemmas.{adds_mark}
use Rattle.rtgs_sql_writes.proofs.Casts.{date_bound}
use Rattle.rtgs_sql_writes.proofs.Keeps.{kept}
use Rattle.rtgs_sql_writes.proofs.Leading.{leads}
use Rattle.rtgs_sql_writes.proofs.statements.inserts.add_mark.Goals as goal

pub returns-clause-kept : goal.returns-clause-kept
returns-clause-kept g c clean =
    kept g.S.Store _ _ c.args.tx.now.conn.now c.execute.new.self.conn.now c.execute.result _ c.execute.ensures.ended
    (c.execute.ensures.runs clean)

pub returns-clause-made : goal.returns-clause-made
returns-clause-made g c content order =
    let number = ap bound_value c.number_value.ensures in
    let date = ap bound_value (c.text_or_null.ensures ∙ ap (or_null Text) c.text_of-date.ensures.text
    ∙ date_bound (Some c.args.mark.now.date)) in
    let count = ap bound_value c.number_value-2.ensures in
    let value = ap bound_value c.cents_value.ensures in
    let old = state g.S.Store c.args.tx.now.conn.now in
    let new = state g.S.Store c.execute.new.self.conn.now in
    leads _ _ old new content _ c.execute.result
    (λ was stands runs. adds_mark was content old new c.args.mark.now c.execute.result _
    (λ i. number i ∷ date i ∷ count i ∷ value i ∷ []) stands order runs)
    c.execute.ensures.runs
