use Rattle.std.proofs.Common.{[], ◌∷◌, nat_lt, arith, ap, sym, subst}
use Rattle.sqlite.specs.Held.{state}
use Rattle.sqlite.specs.Values.{bound_value}
use Rattle.rtgs_rows.specs.Dues.{forwards_of}
use Rattle.rtgs_rows.specs.Fitting.{FitsForward}
use Rattle.rtgs_rows.specs.TableRecords.{forward_records}
use Rattle.rtgs_rows.specs.declared.forward.Forward.{Forward}
use Rattle.rtgs_sql_look_ups.specs.Finding.{after_tests, ShowsFirst}
use Rattle.rtgs_sql_look_ups.specs.Skipping.{first_due_above}
use Rattle.rtgs_sql_look_ups.proofs.DueLemmas.{forwards_fit}
use Rattle.rtgs_sql_look_ups.proofs.FindingTexts.{due_above_asks}
use Rattle.rtgs_sql_look_ups.proofs.FindingLemmas.{fits_found}
use Rattle.rtgs_sql_look_ups.proofs.ListingLemmas.{due_above_first}
use Rattle.rtgs_sql_look_ups.proofs.SkippingLemmas.{no_due_past}
use Rattle.rtgs_sql_look_ups.proofs.listing.forward_above.Goals as goal

pub returns-then-number-clause-found : goal.returns-then-number-clause-found
returns-then-number-clause-found g c clean book held = sym (no_due_past c.args.number book.orders
    (omega (arith, c.if-number.true)) (c.records_are_listed.ensures.orders book held.2.sound))

pub returns-clause-looks : goal.returns-clause-looks
returns-clause-looks g c = c.first_record.ensures.looks after_tests due_above_asks

pub returns-clause-found : goal.returns-clause-found
returns-clause-found g c clean book held =
    let s = state g.S.Store c.args.conn.now in
    let number = ap bound_value c.number_value.ensures in
    let found = first_due_above c.args.number book.orders in
    c.first_record.ensures.found clean held.0 held.1 after_tests due_above_asks found
    (fits_found FitsForward (λ (f : Forward). nat_lt c.args.number f.number) (forwards_of book.orders)
    (forwards_fit book.orders held.2.fits.orders))
    (subst (λ given. ShowsFirst forward_records after_tests s.now.trees given found) (sym (λ i. number i ∷ []))
    (due_above_first c.records_stand_in_order.ensures c.one_table_answers.ensures c.records_are_read.ensures
    c.args.number book s held.0 held.1 held.2))
