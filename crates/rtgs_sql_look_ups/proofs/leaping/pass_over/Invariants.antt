use Rattle.std.proofs.Common.{ℕ, ◌≤◌, Ok}
use Rattle.rtgs_book.specs.declared.book.Book.{Book}
use Rattle.rtgs_rows.specs.Keeping.{HoldsBook}
use Rattle.rtgs_sql_look_ups.specs.Finding.{IsLook}
use Rattle.rtgs_sql_look_ups.specs.Skipping.{Between, IsOff}
use Rattle.sqlite.specs.State.{HasCleanDisk}
use Rattle.sqlite.specs.Held.{state}
use Rattle.rtgs_sql_look_ups.proofs.leaping.pass_over.Given as goal

abbrev pub invariant-loop-leap : goal.invariant-loop-leap
invariant-loop-leap g l = record {
  rises : l.number ≤ l.at;
  looks : IsLook {A = ℕ} g.S.Store l.initial.conn l.conn (Ok l.at);
  found : HasCleanDisk (state g.S.Store l.conn) → (book : Book) → HoldsBook g.S.Store l.initial.conn book
      → Between (IsOff l.date) l.number l.at book.orders;
}
