use Rattle.std.proofs.Common.{◌≡◌, ◌<◌, ◌-◌, ◌*◌, ◌^◌, ◌+ℤ◌, ◌++◌, ℕ, List, None}
use Rattle.std.specs.Io.KnownBytes.{Appends}
use Rattle.rtgs_book.specs.declared.book.Book.{Book}
use Rattle.rtgs_money.specs.declared.amount.TheConstants.Amount as Amount
use Rattle.rtgs_statements.specs.Reads.{LeavesRead, AppendsWholeLines}
use Rattle.rtgs_statements.specs.Records.{orders_on}
use Rattle.rtgs_statements.specs.Rows.{order_rows}
use Rattle.rtgs_statements.specs.Sums.{sent, received}
use Rattle.rtgs_statements.proofs.Terms.{Within}
use Rattle.rtgs_statements.proofs.RecordsOfDate.{orders_left}
use Rattle.rtgs_statements.proofs.statement.write_orders.Given as goal

-- the sums and the rows so far, with those of the orders that are left
abbrev pub invariant-loop-next : goal.invariant-loop-next
invariant-loop-next g l = record {
  fits : l.last < 2 ^ 64;
  within_sent : Within (l.last * Amount.MAX) l.sent;
  within_received : Within (l.last * Amount.MAX) l.received;
  read : LeavesRead g.S.Source.holds g.S.Source.leaves g.S.Source.is_honest g.S.Source.has_failed l.initial.source
      l.source
      None;
  whole : AppendsWholeLines (g.W.Write.contents l.initial.out) (g.W.Write.contents l.out);
  sent : g.S.Source.is_honest l.source → (book : Book) → g.S.Source.holds l.initial.source book
      → (l.sent +ℤ sent l.code (orders_left l.date l.last book)) ≡ sent l.code (orders_on l.date book.orders);
  received : g.S.Source.is_honest l.source → (book : Book) → g.S.Source.holds l.initial.source book
      → (l.received +ℤ received l.code (orders_left l.date l.last book)) ≡ received l.code (orders_on l.date
      book.orders);
  rows : g.S.Source.is_honest l.source → (book : Book) → g.S.Source.holds l.initial.source book
      → (written : List ℕ) × Appends (g.W.Write.contents l.initial.out) (g.W.Write.contents l.out) written
      × (written ++ order_rows l.code (orders_left l.date l.last book)
      ≡ order_rows l.code (orders_on l.date book.orders));
}

abbrev pub decreases-loop-next : goal.decreases-loop-next
decreases-loop-next g l = 2 ^ 64 - l.last
