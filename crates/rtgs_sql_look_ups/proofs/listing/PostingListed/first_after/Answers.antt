use Rattle.std.proofs.Common.{nat_lt, [], ◌∷◌, ap, sym, subst}
use Rattle.sqlite.specs.Held.{state}
use Rattle.sqlite.specs.Values.{bound_value}
use Rattle.rtgs_book.specs.declared.posting.Posting.{Posting}
use Rattle.rtgs_rows.specs.Fitting.{FitsPosting}
use Rattle.rtgs_rows.specs.TableRecords.{posting_records}
use Rattle.rtgs_sql_look_ups.specs.Finding.{after_tests, ShowsFirst}
use Rattle.rtgs_sql_look_ups.specs.Seeking.{first_above}
use Rattle.rtgs_sql_look_ups.proofs.FindingTexts.{posting_after_asks}
use Rattle.rtgs_sql_look_ups.proofs.FindingLemmas.{fits_found}
use Rattle.rtgs_sql_look_ups.proofs.ListingLemmas.{posting_first}
use Rattle.rtgs_sql_look_ups.proofs.listing.PostingListed.first_after.Goals as goal

pub returns-clause-looks : goal.returns-clause-looks
returns-clause-looks g c = c.first_record.ensures.looks after_tests posting_after_asks

pub returns-clause-found : goal.returns-clause-found
returns-clause-found g c clean book held =
    let s = state g.S.Store c.args.conn.now in
    let number = ap bound_value c.number_value.ensures in
    let found = first_above (λ (p : Posting). p.number) c.args.number book.postings in
    c.first_record.ensures.found clean held.0 held.1 after_tests posting_after_asks found
    (fits_found FitsPosting (λ (p : Posting). nat_lt c.args.number p.number) book.postings held.2.fits.postings)
    (subst (λ given. ShowsFirst posting_records after_tests s.now.trees given found) (sym (λ i. number i ∷ []))
    (posting_first c.records_stand_in_order.ensures c.one_table_answers.ensures c.records_are_read.ensures c.args.number
    book s held.0 held.1 held.2))
