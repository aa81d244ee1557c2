use Rattle.std.proofs.Common.{ℕ, Ok}
use Rattle.rtgs_book.specs.declared.book.Book.{Book}
use Rattle.rtgs_rows.specs.Keeping.{HoldsBook}
use Rattle.rtgs_sql_look_ups.specs.Finding.{IsLook}
use Rattle.rtgs_sql_look_ups.specs.Skipping.{Between, IsDueOff}
use Rattle.sqlite.specs.State.{HasCleanDisk}
use Rattle.sqlite.specs.Held.{state}
use Rattle.rtgs_sql_look_ups.proofs.skipping.pass_dues.Given as goal

abbrev pub invariant-loop-looks : goal.invariant-loop-looks
invariant-loop-looks g l = record {
  looks : IsLook {A = ℕ} g.S.Store l.initial.conn l.conn (Ok l.at);
  found : HasCleanDisk (state g.S.Store l.conn) → (book : Book) → HoldsBook g.S.Store l.initial.conn book
      → Between (IsDueOff l.date) l.low l.at book.orders;
}
