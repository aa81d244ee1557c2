use Rattle.std.proofs.Common.{◌≡◌, ◌<◌, ◌-◌, ◌*◌, ◌^◌, ◌+ℤ◌, ◌++◌, ℕ, List, None}
use Rattle.std.specs.Io.KnownBytes.{Appends}
use Rattle.rtgs_book.specs.declared.book.Book.{Book}
use Rattle.rtgs_money.specs.declared.posting_amount.TheConstants.PostingAmount as PostingAmount
use Rattle.rtgs_statements.specs.Reads.{LeavesRead, AppendsWholeLines}
use Rattle.rtgs_statements.specs.Records.{postings_on}
use Rattle.rtgs_statements.specs.Rows.{posting_rows}
use Rattle.rtgs_statements.specs.Sums.{posted}
use Rattle.rtgs_statements.proofs.Terms.{Within}
use Rattle.rtgs_statements.proofs.RecordsOfDate.{postings_left}
use Rattle.rtgs_statements.proofs.statement.write_postings.Given as goal

-- the sum and the rows so far, with those of the postings that are left
abbrev pub invariant-loop-next : goal.invariant-loop-next
invariant-loop-next g l = record {
  fits : l.last < 2 ^ 64;
  within : Within (l.last * PostingAmount.MAX) l.sum;
  read : LeavesRead g.S.Source.holds g.S.Source.leaves g.S.Source.is_honest g.S.Source.has_failed l.initial.source
      l.source
      None;
  whole : AppendsWholeLines (g.W.Write.contents l.initial.out) (g.W.Write.contents l.out);
  sum : g.S.Source.is_honest l.source → (book : Book) → g.S.Source.holds l.initial.source book
      → (l.sum +ℤ posted l.code (postings_left l.date l.last book)) ≡ posted l.code (postings_on l.date book.postings);
  rows : g.S.Source.is_honest l.source → (book : Book) → g.S.Source.holds l.initial.source book
      → (written : List ℕ) × Appends (g.W.Write.contents l.initial.out) (g.W.Write.contents l.out) written
      × (written ++ posting_rows l.code (postings_left l.date l.last book)
      ≡ posting_rows l.code (postings_on l.date book.postings));
}

abbrev pub decreases-loop-next : goal.decreases-loop-next
decreases-loop-next g l = 2 ^ 64 - l.last
