-- What a keeper over a connection holds, and what a stop may leave of it: the laws of such a keeper.
use Rattle.std.specs.Prelude.{◌≡◌, IsTrue, refl}
use Rattle.std.proofs.Common.{sym, ap, subst, ◌∙◌, arith}
use Rattle.sqlite_trees.specs.declared.store.Store.{Ghosts}
use Rattle.sqlite.specs.Tree.{Trees}
use Rattle.sqlite.specs.Held.{Held, state}
use Rattle.rtgs_book.specs.declared.book.Book.{Book}
use Rattle.rtgs_rows.specs.Content.{tables_of, Holds}
use Rattle.rtgs_rows.specs.Keeping.{HoldsBook, MayLeave, IsWhole}
use Rattle.rtgs_rows.specs.Tables.{IsVersion}
use Rattle.rtgs_rows.specs.declared.numbers.TheConstants.{VERSION}
use Rattle.rtgs_rows.specs.Querying.{HasTables}
use Rattle.rtgs_rows.specs.RowLaws.{RowsTellTheBook, TablesOfABookAreWhole}

-- while the connection is open, the last commit is all that a stop leaves
pub settled : {S : Type 0} (g : Ghosts S) (h : Held S) → RowsTellTheBook
    → ((db : Trees) → IsTrue (g.view h.store).is_open → g.recovers h.store db → db ≡ (g.view h.store).committed)
    → (book other : Book) → HoldsBook g h book → MayLeave g h other → other ≡ book
settled g h tells alone book other holds left =
    let same : left.0 ≡ (state g h).committed.trees = alone left.0 holds.1.is_open left.1 in
    tells book other holds.0 left.2.0 holds.2 left.2.2
    (sym holds.1.holds.rows ∙ ap tables_of (sym same) ∙ left.2.1.rows)

pub stays : {S : Type 0} (g : Ghosts S) (h : Held S) →
    (IsTrue (g.view h.store).is_open → g.recovers h.store (g.view h.store).committed) → (book : Book)
    → HoldsBook g h book → MayLeave g h book
stays g h there book holds = ((state g h).committed.trees, there holds.1.is_open, (holds.0, holds.1.holds, holds.2))

-- the version in which new tables are made is known
pub current_is_known : IsVersion VERSION
current_is_known = (2, omega arith, refl)

-- what holds a book has the tables of a desk
pub tabled : {S : Type 0} (g : Ghosts S) (h : Held S) → TablesOfABookAreWhole → (book : Book) → HoldsBook g h book
    → HasTables g h
tabled g h are book holds = (
  record {
    known = current_is_known;
    is_open = holds.1.is_open;
    schema = holds.1.schema;
    trees_are = refl;
    clean = holds.1.clean;
  },
  are (state g h).committed.trees book holds.0 holds.1.holds holds.2,
)

-- what holds a book leaves one
pub whole : {S : Type 0} (g : Ghosts S) (h : Held S) →
    ((db : Trees) → IsTrue (g.view h.store).is_open → g.recovers h.store db → db ≡ (g.view h.store).committed)
    → (book : Book) → HoldsBook g h book → IsWhole g h
whole g h alone book holds trees left =
    (book, (holds.0, subst (Holds holds.0) (sym (alone trees holds.1.is_open left)) holds.1.holds, holds.2))
