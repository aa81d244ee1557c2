use Rattle.std.proofs.Common.{[], ◌∷◌, ◌==◌, option_map, arith, ap, sym, subst, ◌∙◌}
use Rattle.sqlite.specs.Held.{state}
use Rattle.sqlite.specs.Values.{bound_value, or_null}
use Rattle.sqlite.specs.declared.types.Value.TheVariants.{Text}
use Rattle.rtgs_book.specs.declared.order.Order.{Order}
use Rattle.rtgs_rows.specs.Dues.{without_due}
use Rattle.rtgs_rows.specs.Fitting.{FitsOrder}
use Rattle.rtgs_rows.specs.TableRecords.{order_records}
use Rattle.rtgs_book.specs.cores.Nexts.{order_after, is_order_after}
use Rattle.rtgs_sql_look_ups.specs.Finding.{order_after_tests, ShowsFirst}
use Rattle.rtgs_sql_look_ups.proofs.FindingTexts.{order_after_asks}
use Rattle.rtgs_sql_look_ups.proofs.FindingLemmas.{fits_found}
use Rattle.rtgs_sql_look_ups.proofs.ListingLemmas.{order_first}
use Rattle.rtgs_sql_look_ups.proofs.DueLemmas.{plain_fits}
use Rattle.rtgs_sql_look_ups.proofs.SeekingLemmas.{none_past}
use Rattle.rtgs_sql_look_ups.proofs.listing.undated_after.Goals as goal

pub returns-then-number-clause-found : goal.returns-then-number-clause-found
unfolding order_after
returns-then-number-clause-found g c clean book held = sym (ap (option_map without_due)
    (none_past (λ (o : Order). o.number) (λ (o : Order). o.date == c.args.date) c.args.number book.orders
    (omega (arith, c.if-number.true)) (c.records_are_listed.ensures.orders book held.2.sound)))

pub returns-clause-looks : goal.returns-clause-looks
returns-clause-looks g c = c.first_record.ensures.looks order_after_tests order_after_asks

pub returns-clause-found : goal.returns-clause-found
unfolding order_after
returns-clause-found g c clean book held =
    let s = state g.S.Store c.args.conn.now in
    let date = ap bound_value (c.text_or_null.ensures ∙ ap (or_null Text) c.text_of-day.ensures.text) in
    let number = ap bound_value c.number_value.ensures in
    let order = order_after book c.args.date c.args.number in
    let found = option_map without_due order in
    c.first_record.ensures.found clean held.0 held.1 order_after_tests order_after_asks found
    (plain_fits order
    (fits_found FitsOrder (is_order_after c.args.date c.args.number) book.orders held.2.fits.orders))
    (subst (λ given. ShowsFirst order_records order_after_tests s.now.trees given found)
    (sym (λ i. date i ∷ number i ∷ []))
    (order_first c.records_stand_in_order.ensures c.one_table_answers.ensures c.records_are_read.ensures
    c.dates_have_distinct_texts.ensures c.args.date c.args.number c.text_of-day.ensures.in_range book s held.0 held.1
    held.2))
