use Rattle.std.proofs.Common.{◌<◌, ◌-◌, ◌^◌, None}
use Rattle.rtgs_book.specs.declared.book.Book.{Book}
use Rattle.rtgs_statements.specs.Reads.{LeavesRead}
use Rattle.rtgs_statements.specs.Records.{orders_on}
use Rattle.rtgs_statements.proofs.Days.{IsWithin, IsWithLeft}
use Rattle.rtgs_statements.proofs.RecordsOfDate.{orders_left}
use Rattle.rtgs_statements.proofs.records_of_date.ordered_on.Given as goal

-- what the orders read so far come to, with the orders that are left
abbrev pub invariant-loop-next : goal.invariant-loop-next
invariant-loop-next g l = record {
  fits : l.last < 2 ^ 64;
  within : IsWithin l.last l.ordered;
  read : LeavesRead g.S.Source.holds g.S.Source.leaves g.S.Source.is_honest g.S.Source.has_failed l.initial.source
      l.source
      None;
  sums : g.S.Source.is_honest l.source → (book : Book) → g.S.Source.holds l.initial.source book
      → IsWithLeft l.ordered (orders_left l.date l.last book) (orders_on l.date book.orders);
}

abbrev pub decreases-loop-next : goal.decreases-loop-next
decreases-loop-next g l = 2 ^ 64 - l.last
