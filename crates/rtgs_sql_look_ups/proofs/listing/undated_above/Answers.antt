use Rattle.std.proofs.Common.{[], ◌∷◌, nat_lt, option_map, arith, ap, sym, subst}
use Rattle.sqlite.specs.Held.{state}
use Rattle.sqlite.specs.Values.{bound_value}
use Rattle.rtgs_book.specs.declared.order.Order.{Order}
use Rattle.rtgs_rows.specs.Dues.{without_due}
use Rattle.rtgs_rows.specs.Fitting.{FitsOrder}
use Rattle.rtgs_rows.specs.TableRecords.{order_records}
use Rattle.rtgs_sql_look_ups.specs.Finding.{after_tests, ShowsFirst}
use Rattle.rtgs_sql_look_ups.specs.Skipping.{first_order_above}
use Rattle.rtgs_sql_look_ups.proofs.FindingTexts.{order_above_asks}
use Rattle.rtgs_sql_look_ups.proofs.FindingLemmas.{fits_found}
use Rattle.rtgs_sql_look_ups.proofs.ListingLemmas.{order_above_first}
use Rattle.rtgs_sql_look_ups.proofs.DueLemmas.{plain_fits}
use Rattle.rtgs_sql_look_ups.proofs.SeekingLemmas.{none_above_last}
use Rattle.rtgs_sql_look_ups.proofs.listing.undated_above.Goals as goal

pub returns-then-number-clause-found : goal.returns-then-number-clause-found
returns-then-number-clause-found g c clean book held = sym (ap (option_map without_due)
    (none_above_last (λ (o : Order). o.number) c.args.number book.orders (omega (arith, c.if-number.true))
    (c.records_are_listed.ensures.orders book held.2.sound)))

pub returns-clause-looks : goal.returns-clause-looks
returns-clause-looks g c = c.first_record.ensures.looks after_tests order_above_asks

pub returns-clause-found : goal.returns-clause-found
returns-clause-found g c clean book held =
    let s = state g.S.Store c.args.conn.now in
    let number = ap bound_value c.number_value.ensures in
    let order = first_order_above c.args.number book.orders in
    let found = option_map without_due order in
    c.first_record.ensures.found clean held.0 held.1 after_tests order_above_asks found
    (plain_fits order (fits_found FitsOrder (λ (o : Order). nat_lt c.args.number o.number) book.orders
    held.2.fits.orders))
    (subst (λ given. ShowsFirst order_records after_tests s.now.trees given found) (sym (λ i. number i ∷ []))
    (order_above_first c.records_stand_in_order.ensures c.one_table_answers.ensures c.records_are_read.ensures
    c.args.number book s held.0 held.1 held.2))
