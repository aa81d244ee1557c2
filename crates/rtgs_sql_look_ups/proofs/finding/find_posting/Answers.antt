use Rattle.std.proofs.Common.{◌∙◌}
use Rattle.rtgs_book.specs.Lookup.{posting_named, is_posting_named}
use Rattle.rtgs_rows.specs.Fitting.{FitsPosting}
use Rattle.rtgs_sql_look_ups.proofs.FindingLemmas.{looks_ok, looks_err, is_found, fits_found}
use Rattle.rtgs_sql_look_ups.proofs.finding.find_posting.Goals as goal

pub returns-in-Ok-clause-looks : goal.returns-in-Ok-clause-looks
returns-in-Ok-clause-looks g c =
    looks_ok g.S.Store c.args.conn.now c.posting_rows.new.conn _ c.only_record.result c.in-Ok.ensures.asks
    c.only_record.ensures.kinds

pub returns-in-Err-clause-looks : goal.returns-in-Err-clause-looks
returns-in-Err-clause-looks g c =
    looks_err g.S.Store c.args.conn.now c.posting_rows.new.conn c.fault_of.new.conn _ c.fault_of.result
    c.in-Err.ensures.asks c.fault_of.ensures.kinds c.fault_of.ensures.kept c.fault_of.ensures.mode
    c.fault_of.ensures.survives

pub returns-in-Ok-clause-found : goal.returns-in-Ok-clause-found
unfolding posting_named
returns-in-Ok-clause-found g c clean book held =
    is_found c.only_record.result (posting_named book c.args.reference.now) (c.only_record.ensures.found
    (posting_named book c.args.reference.now)
    (fits_found FitsPosting (is_posting_named c.args.reference.now) book.postings held.2.fits.postings)
    (c.records_are_read.ensures _ _ (c.as_slice.ensures.value ∙ c.in-Ok.ensures.rows clean book held)))
