use Rattle.std.proofs.Common.{◌≡◌, Some, sym, ◌∙◌, slice_get, rules}
use Rattle.rtgs_book.specs.Lookup.{codes_of}
use Rattle.rtgs_statements.proofs.RecordsOfDate.{one_code_more}
use Rattle.rtgs_statements.proofs.records_of_date.codes_of.Goals as goal

pub loop-index-preserved : goal.loop-index-preserved
loop-index-preserved g c = record {
  taken = λ book held.
      let there : slice_get (codes_of book) c.loop-index.index ≡ Some c.in-Some.code =
      sym (c.code_at.ensures book held) ∙ c.in-Some.is in
      one_code_more c.loop-index.codes.items (codes_of book) _ c.loop-index.index c.in-Some.code there
      (c.loop-index.invariant.taken book held).0 (search rules);
}
