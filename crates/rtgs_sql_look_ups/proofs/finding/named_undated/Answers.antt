use Rattle.std.proofs.Common.{option_map, sym, ◌∙◌}
use Rattle.rtgs_book.specs.Lookup.{order_named, is_order_named}
use Rattle.rtgs_rows.specs.Dues.{without_due}
use Rattle.rtgs_rows.specs.Fitting.{FitsOrder}
use Rattle.rtgs_sql_look_ups.proofs.FindingLemmas.{looks_ok, looks_err, is_found, fits_found}
use Rattle.rtgs_sql_look_ups.proofs.DueLemmas.{shown_plain, plain_fits}
use Rattle.rtgs_sql_look_ups.proofs.finding.named_undated.Goals as goal

pub returns-in-Ok-clause-looks : goal.returns-in-Ok-clause-looks
returns-in-Ok-clause-looks g c =
    looks_ok g.S.Store c.args.conn.now c.order_rows.new.conn _ c.only_record.result c.in-Ok.ensures.asks
    c.only_record.ensures.kinds

pub returns-in-Err-clause-looks : goal.returns-in-Err-clause-looks
returns-in-Err-clause-looks g c =
    looks_err g.S.Store c.args.conn.now c.order_rows.new.conn c.fault_of.new.conn _ c.fault_of.result
    c.in-Err.ensures.asks c.fault_of.ensures.kinds c.fault_of.ensures.kept c.fault_of.ensures.mode
    c.fault_of.ensures.survives

pub returns-in-Ok-clause-found : goal.returns-in-Ok-clause-found
unfolding order_named
returns-in-Ok-clause-found g c clean book held =
    let order = order_named book c.args.sender.now c.args.reference.now in
    is_found c.only_record.result (option_map without_due order) (c.only_record.ensures.found
    (option_map without_due order) (plain_fits order
    (fits_found FitsOrder (is_order_named c.args.sender.now c.args.reference.now) book.orders held.2.fits.orders))
    (c.records_are_read.ensures _ _ (c.as_slice.ensures.value ∙ c.in-Ok.ensures.rows clean book held
    ∙ sym (shown_plain order))))
