use Rattle.std.proofs.Common.{[], ◌∷◌, ap, ◌∙◌}
use Rattle.sqlite.specs.declared.types.Value.TheVariants.{Text}
use Rattle.sqlite.specs.Values.{bound_value}
use Rattle.sqlite.specs.Effect.{Database}
use Rattle.sqlite.specs.Held.{state}
use Rattle.rtgs_rows.specs.Tables.{posting_table}
use Rattle.rtgs_sql_columns.specs.Tables.{column_names}
use Rattle.rtgs_sql_look_ups.proofs.FindingTexts.{posting_query, posting_seeks, posting_reads}
use Rattle.rtgs_sql_look_ups.proofs.FindingLemmas.{finds_posting}
use Rattle.rtgs_sql_look_ups.proofs.finding.posting_rows.Goals as goal

pub returns-clause-asks : goal.returns-clause-asks
returns-clause-asks g c = c.asked_rows.ensures.asks posting_reads

pub returns-clause-rows : goal.returns-clause-rows
returns-clause-rows g c clean book held =
    let reference = ap bound_value (c.text.ensures ∙ ap Text c.as_bytes.ensures.value) in
    finds_posting c.one_table_answers.ensures c.args.reference.now book (state g.S.Store c.args.conn.now) held.0 held.1
    held.2 c.asked_rows.result _ (λ i. reference i ∷ [])
    (c.asked_rows.ensures.rows clean posting_query (column_names posting_table) posting_seeks
    (ap (λ (d : Database). d.schema) held.1.clean ∙ held.1.schema))
