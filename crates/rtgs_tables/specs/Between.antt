-- What is so of a connection that holds a book, between two calls: the laws of the keeper over it, together.
use Rattle.std.specs.Prelude.{◌≡◌, IsTrue}
use Rattle.sqlite_trees.specs.declared.store.Store.{Ghosts}
use Rattle.sqlite.specs.Tree.{Trees}
use Rattle.sqlite.specs.Held.{Held}
use Rattle.rtgs_book.specs.declared.book.Book.{Book}
use Rattle.rtgs_rows.specs.Keeping.{HoldsBook, MayLeave, IsWhole}
use Rattle.rtgs_rows.specs.Querying.{HasTables}
use Rattle.rtgs_rows.specs.RowLaws.{RowsTellTheBook, TablesOfABookAreWhole}
use Rattle.rtgs_rows.specs.Settling.{settled, stays, tabled, whole}

pub between : {S : Type 0} (g : Ghosts S) (h : Held S) → RowsTellTheBook → TablesOfABookAreWhole
    → ((db : Trees) → IsTrue (g.view h.store).is_open → g.recovers h.store db → db ≡ (g.view h.store).committed)
    → (IsTrue (g.view h.store).is_open → g.recovers h.store (g.view h.store).committed)
    → ((book other : Book) → HoldsBook g h book → MayLeave g h other → other ≡ book)
    × ((book : Book) → HoldsBook g h book → MayLeave g h book)
    × ((book : Book) → HoldsBook g h book → HasTables g h)
    × ((book : Book) → HoldsBook g h book → IsWhole g h)
between g h tells are alone there = (settled g h tells alone, stays g h there, tabled g h are, whole g h alone)
