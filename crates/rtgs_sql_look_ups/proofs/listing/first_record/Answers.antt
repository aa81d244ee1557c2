use Rattle.std.proofs.Common.{◌≡◌, map, sym, ap, subst, ◌∙◌}
use Rattle.sqlite.specs.Effect.{Database}
use Rattle.rtgs_sql_columns.specs.Numbers.{as_read}
use Rattle.rtgs_sql_columns.specs.Tables.{column_names}
use Rattle.rtgs_sql_look_ups.specs.Finding.{one_of, first_query}
use Rattle.rtgs_sql_look_ups.proofs.FindingLemmas.{looks_ok, looks_err, is_found}
use Rattle.rtgs_sql_look_ups.proofs.listing.first_record.Goals as goal

pub returns-in-Ok-clause-looks : goal.returns-in-Ok-clause-looks
returns-in-Ok-clause-looks g c tests is =
    let t = g.T.TableRow.records.table in
    looks_ok g.S.Store c.args.conn.now c.asked_rows.new.conn _ c.only_record.result
    (c.in-Ok.ensures.asks is.reads) c.only_record.ensures.kinds

pub returns-in-Err-clause-looks : goal.returns-in-Err-clause-looks
returns-in-Err-clause-looks g c tests is =
    let t = g.T.TableRow.records.table in
    looks_err g.S.Store c.args.conn.now c.asked_rows.new.conn c.fault_of.new.conn _ c.fault_of.result
    (c.in-Err.ensures.asks is.reads) c.fault_of.ensures.kinds
    c.fault_of.ensures.kept c.fault_of.ensures.mode c.fault_of.ensures.survives

pub returns-in-Ok-clause-found : goal.returns-in-Ok-clause-found
returns-in-Ok-clause-found g c clean content rests tests is found fits shows =
    let t = g.T.TableRow.records in
    is_found c.only_record.result found (c.only_record.ensures.found found fits
    (subst (λ rows. map (as_read t.counted) rows ≡ map t.shown (one_of found)) (sym c.as_slice.ensures.value)
    (shows _ (c.in-Ok.ensures.rows clean (first_query t.table tests) (column_names t.table) is.seeks
    (ap (λ (d : Database). d.schema) rests.clean ∙ rests.schema)))))
