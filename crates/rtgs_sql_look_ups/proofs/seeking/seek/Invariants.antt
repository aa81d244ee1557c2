use Rattle.std.proofs.Common.{◌≡◌, ℕ, ◌+◌, ◌<◌, ◌≤◌, ◌^◌, Ok}
use Rattle.rtgs_book.specs.declared.book.Book.{Book}
use Rattle.rtgs_book.specs.declared.limits.TheConstants.{LARGEST_NUMBER}
use Rattle.rtgs_book.specs.cores.Nexts.{AreListed}
use Rattle.rtgs_rows.specs.Keeping.{HoldsBook}
use Rattle.rtgs_sql_look_ups.specs.Finding.{IsLook}
use Rattle.rtgs_sql_look_ups.specs.Seeking.{IsEarly, TurnsBetween}
use Rattle.rtgs_sql_look_ups.specs.declared.seeking.TheConstants.{MOST_HALVINGS}
use Rattle.sqlite.specs.State.{HasCleanDisk}
use Rattle.sqlite.specs.Held.{state}
use Rattle.rtgs_sql_look_ups.proofs.seeking.seek.Given as goal

abbrev pub invariant-loop-round : goal.invariant-loop-round
invariant-loop-round g l = record {
  bounds : (l.low ≤ l.least) × (l.least ≤ l.most) × (l.most ≤ LARGEST_NUMBER);
  -- each round leaves half of the numbers
  near : (rounds : ℕ) → rounds + l._round ≡ MOST_HALVINGS → l.most < l.least + 2 ^ rounds;
  looks : IsLook {A = ℕ} g.S.Store l.initial.conn l.conn (Ok l.least);
  found : HasCleanDisk (state g.S.Store l.conn) → (book : Book) → HoldsBook g.S.Store l.initial.conn book
      → AreListed g.T.Listed.number_of g.T.Listed.date_of (g.T.Listed.listed book)
      → IsEarly g.T.Listed.number_of g.T.Listed.date_of l.date l.low (g.T.Listed.listed book)
      → TurnsBetween g.T.Listed.number_of g.T.Listed.date_of l.date l.least l.most (g.T.Listed.listed book);
}
