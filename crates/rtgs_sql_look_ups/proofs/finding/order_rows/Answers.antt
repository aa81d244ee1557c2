use Rattle.std.proofs.Common.{[], ◌∷◌, ap, ◌∙◌}
use Rattle.sqlite.specs.declared.types.Value.TheVariants.{Text}
use Rattle.sqlite.specs.Values.{bound_value}
use Rattle.sqlite.specs.Effect.{Database}
use Rattle.sqlite.specs.Held.{state}
use Rattle.rtgs_rows.specs.Tables.{order_table}
use Rattle.rtgs_sql_columns.specs.Tables.{column_names}
use Rattle.rtgs_sql_look_ups.proofs.FindingTexts.{order_query, order_seeks, order_reads}
use Rattle.rtgs_sql_look_ups.proofs.FindingLemmas.{finds_order}
use Rattle.rtgs_sql_look_ups.proofs.finding.order_rows.Goals as goal

pub returns-clause-asks : goal.returns-clause-asks
returns-clause-asks g c = c.asked_rows.ensures.asks order_reads

pub returns-clause-rows : goal.returns-clause-rows
returns-clause-rows g c clean book held =
    let sender = ap bound_value (c.text.ensures ∙ ap Text c.as_bytes.ensures.value) in
    let reference = ap bound_value (c.text-2.ensures ∙ ap Text c.as_bytes-2.ensures.value) in
    finds_order c.one_table_answers.ensures c.args.sender.now c.args.reference.now book
    (state g.S.Store c.args.conn.now) held.0 held.1 held.2 c.asked_rows.result _
    (λ i. sender i ∷ reference i ∷ [])
    (c.asked_rows.ensures.rows clean order_query (column_names order_table) order_seeks
    (ap (λ (d : Database). d.schema) held.1.clean ∙ held.1.schema))
