use Rattle.std.proofs.Common.{◌≡◌, ◌<◌, ◌-◌, ◌*◌, ◌^◌, ◌+ℤ◌, ℕ, List, None}
use Rattle.rtgs_book.specs.declared.book.Book.{Book}
use Rattle.rtgs_money.specs.declared.posting_amount.TheConstants.PostingAmount as PostingAmount
use Rattle.rtgs_statements.specs.Reads.{LeavesRead}
use Rattle.rtgs_statements.specs.Records.{postings_on}
use Rattle.rtgs_statements.specs.Sums.{posted, sum_at}
use Rattle.rtgs_statements.proofs.Terms.{Within}
use Rattle.rtgs_statements.proofs.RecordsOfDate.{postings_left}
use Rattle.rtgs_statements.proofs.records_of_date.posted_on.Given as goal

-- the totals so far, with the postings that are left
abbrev pub invariant-loop-next : goal.invariant-loop-next
invariant-loop-next g l = record {
  fits : l.last < 2 ^ 64;
  within : (code : List ℕ) → Within (l.last * PostingAmount.MAX) (sum_at l.totals code);
  read : LeavesRead g.S.Source.holds g.S.Source.leaves g.S.Source.is_honest g.S.Source.has_failed l.initial.source
      l.source
      None;
  sums : g.S.Source.is_honest l.source → (book : Book) → g.S.Source.holds l.initial.source book → (code : List ℕ)
      → (sum_at l.totals code +ℤ posted code (postings_left l.date l.last book))
      ≡ posted code (postings_on l.date book.postings);
}

abbrev pub decreases-loop-next : goal.decreases-loop-next
decreases-loop-next g l = 2 ^ 64 - l.last
