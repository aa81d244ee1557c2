-- The tables of a new desk.
use Rattle.std.specs.Prelude.{◌≡◌, ◌⊎◌}
use Rattle.sqlite.specs.Held.{Held, state}
use Rattle.sqlite.specs.State.{State}
use Rattle.sqlite.specs.Tree.{Trees}
use Rattle.sqlite_trees.specs.declared.store.Store.{Ghosts}
use Rattle.rtgs_book.specs.declared.book.Book.{Book}
use Rattle.rtgs_book.specs.Books.{new_book}
use Rattle.rtgs_rows.specs.Content.{HasNoTables, Holds}
use Rattle.rtgs_rows.specs.Keeping.{MayLeave}
pub use Rattle.rtgs_sql_columns.specs.Blank.{IsBlank}
pub use Rattle.rtgs_rows.specs.Keeping.{first_content}

-- no tables at all, or those of a new desk
abbrev pub IsNoneOrNew : Trees → Type 0
IsNoneOrNew trees = HasNoTables trees ⊎ Holds first_content trees

-- a stop leaves no tables, or those of a new desk, and no book but the new one
pub record LeavesNew {S : Type 0} (g : Ghosts S) (h : Held S) : Type 0 where
  pub tables : (trees : Trees) → (state g h).may_leave trees → IsNoneOrNew trees
  pub books : (other : Book) → MayLeave g h other → other ≡ new_book

-- nothing is in the database, and a stop leaves no tables
abbrev pub StaysBlank : State → Type 0
StaysBlank s = IsBlank s × ((trees : Trees) → s.may_leave trees → HasNoTables trees)
