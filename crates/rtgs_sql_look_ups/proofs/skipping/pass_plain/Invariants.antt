use Rattle.std.proofs.Common.{ℕ, Ok}
use Rattle.rtgs_book.specs.declared.book.Book.{Book}
use Rattle.rtgs_rows.specs.Keeping.{HoldsBook}
use Rattle.rtgs_sql_look_ups.specs.Finding.{IsLook}
use Rattle.rtgs_sql_look_ups.specs.Skipping.{Between, IsPlainOff}
use Rattle.sqlite.specs.State.{HasCleanDisk}
use Rattle.sqlite.specs.Held.{state}
use Rattle.rtgs_sql_look_ups.proofs.skipping.pass_plain.Given as goal

abbrev pub invariant-loop-look : goal.invariant-loop-look
invariant-loop-look g l = record {
  looks : IsLook {A = ℕ} g.S.Store l.initial.conn l.conn (Ok l.at);
  -- none up to here is a plain one
  found : HasCleanDisk (state g.S.Store l.conn) → (book : Book) → HoldsBook g.S.Store l.initial.conn book
      → Between (IsPlainOff l.date) l.number l.at book.orders;
}
