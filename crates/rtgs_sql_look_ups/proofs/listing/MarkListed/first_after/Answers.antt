use Rattle.std.proofs.Common.{nat_lt, [], ◌∷◌, ap, sym, subst}
use Rattle.sqlite.specs.Held.{state}
use Rattle.sqlite.specs.Values.{bound_value}
use Rattle.rtgs_book.specs.declared.mark.Mark.{Mark}
use Rattle.rtgs_rows.specs.Fitting.{FitsMark}
use Rattle.rtgs_rows.specs.TableRecords.{mark_records}
use Rattle.rtgs_sql_look_ups.specs.Finding.{after_tests, ShowsFirst}
use Rattle.rtgs_sql_look_ups.specs.Seeking.{first_above}
use Rattle.rtgs_sql_look_ups.proofs.FindingTexts.{mark_after_asks}
use Rattle.rtgs_sql_look_ups.proofs.FindingLemmas.{fits_found}
use Rattle.rtgs_sql_look_ups.proofs.ListingLemmas.{mark_first}
use Rattle.rtgs_sql_look_ups.proofs.listing.MarkListed.first_after.Goals as goal

pub returns-clause-looks : goal.returns-clause-looks
returns-clause-looks g c = c.first_record.ensures.looks after_tests mark_after_asks

pub returns-clause-found : goal.returns-clause-found
returns-clause-found g c clean book held =
    let s = state g.S.Store c.args.conn.now in
    let number = ap bound_value c.number_value.ensures in
    let found = first_above (λ (m : Mark). m.number) c.args.number book.marks in
    c.first_record.ensures.found clean held.0 held.1 after_tests mark_after_asks found
    (fits_found FitsMark (λ (m : Mark). nat_lt c.args.number m.number) book.marks held.2.fits.marks)
    (subst (λ given. ShowsFirst mark_records after_tests s.now.trees given found) (sym (λ i. number i ∷ []))
    (mark_first c.records_stand_in_order.ensures c.one_table_answers.ensures c.records_are_read.ensures c.args.number
    book s held.0 held.1 held.2))
