use Rattle.std.proofs.Common.{◌≡◌, ◌+◌, ◌≤◌, ◌<◌, ◌-◌, ◌^◌, length, None}
use Rattle.rtgs_book.specs.declared.book.Book.{Book}
use Rattle.rtgs_statements.specs.Reads.{LeavesRead}
use Rattle.rtgs_statements.specs.Records.{marks_on}
use Rattle.rtgs_statements.proofs.RecordsOfDate.{marks_left}
use Rattle.rtgs_statements.proofs.records_of_date.marks_on.Given as goal

-- the count so far, with the marks that are left
abbrev pub invariant-loop-next : goal.invariant-loop-next
invariant-loop-next g l = record {
  fits : l.last < 2 ^ 64;
  few : l.count ≤ l.last;
  read : LeavesRead g.S.Source.holds g.S.Source.leaves g.S.Source.is_honest g.S.Source.has_failed l.initial.source
      l.source
      None;
  count : g.S.Source.is_honest l.source → (book : Book) → g.S.Source.holds l.initial.source book
      → l.count + length (marks_left l.date l.last book) ≡ length (marks_on l.date book.marks);
}

abbrev pub decreases-loop-next : goal.decreases-loop-next
decreases-loop-next g l = 2 ^ 64 - l.last
