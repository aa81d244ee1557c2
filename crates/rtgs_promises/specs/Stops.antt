-- What stops and openings leave of a store. `g` has the members of the store's trait.
use Rattle.std.specs.Prelude.{◌≡◌}
use Rattle.sqlite.specs.State.{State}
use Rattle.sqlite.specs.Tree.{Trees}
use Rattle.sqlite_trees.specs.View.{IsClean}
use Rattle.sqlite_trees.specs.declared.store.Store.{Ghosts}
use Rattle.rtgs_book.specs.declared.book.Book.{Book}
use Rattle.rtgs_book.specs.declared.fault.Fault.{Fault}
use Rattle.rtgs_book.specs.Calm.{IsCalm}
use Rattle.rtgs_book_file.specs.stored_desk.Stored.{AreTablesOf, IsMemoryOrStore}
use Rattle.rtgs_promises.specs.Headline.{AreExactly}

-- The disk gave back what was written to the first, if it did to the second, and a crash of the second leaves nothing
-- that one of the first could not leave.
abbrev pub LeavesNoMore : {S : Type 0} → Ghosts S → S → S → Type 0
LeavesNoMore g old new = IsClean (g.view new)
    → IsClean (g.view old) × ((trees : Trees) → g.recovers new trees → g.recovers old trees)

-- no desk was opened over what a store had committed, and a crash leaves that
pub record IsUnopened (old : State) (fault : Fault) (may_leave : Trees → Type 0) : Type 0 where
  pub leaves : (trees : Trees) → may_leave trees → trees ≡ old.committed.trees
  pub cause : (book : Book) → AreTablesOf book old.committed.trees → IsCalm book → IsMemoryOrStore fault

-- whatever a crash leaves are the tables of a calm book
abbrev pub LeavesCalm : (Trees → Type 0) → Type 0
LeavesCalm may_leave = (trees : Trees) → may_leave trees → (book : Book) × AreTablesOf book trees × IsCalm book

-- whatever a crash leaves are exactly the tables of the book
abbrev pub LeavesTables : Book → (Trees → Type 0) → Type 0
LeavesTables book may_leave = (trees : Trees) → may_leave trees → AreExactly book trees
