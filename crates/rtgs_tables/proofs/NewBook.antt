-- The book of a new desk.
use Rattle.std.proofs.Common.{◌≡◌, inl, inr, sym, ◌∙◌}
use Rattle.sqlite_trees.specs.declared.store.Store.{Ghosts}
use Rattle.sqlite.specs.Tree.{Trees}
use Rattle.sqlite.specs.Held.{Held, state}
use Rattle.sqlite.specs.State.{State, Opens, IsLive, HasCleanDisk, Survives}
use Rattle.rtgs_book.specs.declared.book.Book.{Book}
use Rattle.rtgs_rows.specs.Content.{HasNoTables, Holds, Rests}
use Rattle.rtgs_rows.specs.Keeping.{IsBookOf, HoldsBook, MayLeave}
use Rattle.rtgs_rows.specs.RowLaws.{RowsTellTheBook, NoTablesAreReadAsNone, NoTablesHoldNoBook}
use Rattle.rtgs_book.specs.Books.{new_book}
use Rattle.rtgs_tables.specs.Building.{IsBlank, IsNoneOrNew, first_content}

pub holds_new : {S : Type 0} (g : Ghosts S) (h : Held S) → IsBookOf new_book first_content
    → Rests first_content (state g h) → HoldsBook g h new_book
holds_new g h is rests = (first_content, rests, is)

-- a stop leaves what it could leave before, which is no tables, or those of the new book
pub leaves_new : {S : Type 0} (g : Ghosts S) (old new : Held S)
    → Survives (state g old) (state g new) (λ trees. IsBlank (state g old) → Holds first_content trees)
    → HasCleanDisk (state g new) → IsBlank (state g old)
    → ((trees : Trees) → (state g old).may_leave trees → HasNoTables trees) → (trees : Trees)
    → (state g new).may_leave trees → IsNoneOrNew trees
leaves_new g old new s clean blank none trees left = elim (s.crash clean trees left)
    [ inl was ↦ inl (none trees was) | inr made ↦ inr (made blank) ]

-- and so the new book, if any
pub only_new : RowsTellTheBook → NoTablesHoldNoBook → {S : Type 0} (g : Ghosts S) (h : Held S)
    → IsBookOf new_book first_content
    → ((trees : Trees) → (state g h).may_leave trees → IsNoneOrNew trees) → (other : Book) → MayLeave g h other
    → other ≡ new_book
only_new tells holds_none g h is all other left = elim (all left.0 left.1) [
  | inl none ↦ absurd (holds_none left.0 left.2.0 none left.2.1)
  | inr made ↦ tells new_book other first_content left.2.0 is left.2.2 (sym made.rows ∙ left.2.1.rows)
]

-- a database is opened that has no tables
pub opened_blank : NoTablesAreReadAsNone → (s : State) → Opens s → IsLive s → HasNoTables s.committed.trees → IsBlank s
opened_blank read s opens live none = record {
  is_open = opens.is_open;
  schema = read s.committed.schema s.committed.trees none (live opens.is_open).1;
  clean = opens.clean;
}
