use Rattle.std.proofs.Common.{◌≡◌, ◌≤◌, true, [], length, take, vec_capacity}
use Rattle.rtgs_book.specs.declared.book.Book.{Book}
use Rattle.rtgs_desk.specs.Holding.{Holds}
use Rattle.rtgs_desk.proofs.batches.Sending.{SoFar}
use Rattle.rtgs_desk.proofs.batches.batch.submit_batch.Given as goal

abbrev pub invariant-loop-row : goal.invariant-loop-row
invariant-loop-row g l = record {
  counted : length l.replies.items ≡ l.row-index;
  room : length l.rows ≤ vec_capacity l.replies;
  honest : g.K.Keeper.is_honest l.desk.keeper → g.K.Keeper.is_honest l.fn.desk.keeper;
  works : g.K.Keeper.has_failed l.desk.keeper ≡ g.K.Keeper.has_failed l.fn.desk.keeper;
  same : g.K.Keeper.has_failed l.fn.desk.keeper ≡ true → (l.desk ≡ l.fn.desk) × (l.replies.items ≡ []);
  so_far : g.K.Keeper.is_honest l.desk.keeper → (book : Book) → Holds g.K.Keeper l.fn.desk book
      → SoFar g.K.Keeper book l.sender (take l.row-index l.rows) l.replies.items l.desk;
}
