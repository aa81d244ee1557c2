-- Tables of an earlier version, and what a migration makes of them.
use Rattle.std.specs.Prelude.{◌≡◌, ◌⊎◌, ◌<◌, ℕ, Bool, true, false, drop, Result, IfOk, IfErr}
use Rattle.sqlite.specs.Tree.{Trees}
use Rattle.sqlite.specs.Held.{Held, state}
use Rattle.sqlite_trees.specs.declared.store.Store.{Ghosts}
use Rattle.rtgs_book.specs.declared.book.Book.{Book}
use Rattle.rtgs_book.specs.declared.fault.Fault.{Fault}
use Rattle.rtgs_book.specs.declared.fault.Fault.TheVariants.{OutOfMemory, StoreFault}
use Rattle.rtgs_rows.specs.Content.{Content, HoldsIn, RestsIn, all_tables}
use Rattle.rtgs_rows.specs.Keeping.{IsBookOf, HoldsBook, first_content}
use Rattle.rtgs_rows.specs.Querying.{IsFileIn, AreWholeIn}
use Rattle.rtgs_rows.specs.Tables.{table_count}
use Rattle.rtgs_rows.specs.declared.numbers.TheConstants.{VERSION}

-- in the tables that the version lacks the records have what a new desk has there
abbrev pub HasNoMore : ℕ → Content → Type 0
HasNoMore version content = drop (table_count version) (all_tables version content)
    ≡ drop (table_count version) (all_tables version first_content)

-- the trees are tables of this version that hold the book, all of it
pub record TellIn (version : ℕ) (book : Book) (trees : Trees) : Type 0 where
  pub content : Content
  pub holds : HoldsIn version content trees
  pub no_more : HasNoMore version content
  pub same : IsBookOf book content

-- the tables of the connection are of an earlier version, and hold the book, all of it
pub record IsOlder {S : Type 0} (g : Ghosts S) (version : ℕ) (book : Book) (h : Held S) : Type 0 where
  pub earlier : version < VERSION
  pub content : Content
  pub rests : RestsIn version content (state g h)
  pub no_more : HasNoMore version content
  pub same : IsBookOf book content

-- whatever a stop leaves are tables that hold the book, of this version or of the newest
abbrev pub LeavesEither : {S : Type 0} → Ghosts S → ℕ → Book → Held S → Type 0
LeavesEither g version book h = (trees : Trees) → (state g h).may_leave trees
    → TellIn version book trees ⊎ TellIn VERSION book trees

-- what a migration answers over a connection, whether it wrote or why not, and what it leaves
pub record Migrates {S : Type 0} (g : Ghosts S) (old new : Held S) (result : Result Bool Fault) : Type 0 where
  -- tables of an earlier version become those of the newest, and hold the same book
  pub migrated : (version : ℕ) (book : Book) → IsOlder g version book old
      → IfOk result (λ wrote. (wrote ≡ true) × HoldsBook g new book)
  -- those of the newest stay
  pub repeated : (book : Book) → HoldsBook g old book → IfOk result (λ wrote. (wrote ≡ false) × HoldsBook g new book)
  -- lack of memory and the store alone may refuse either
  pub accepted : (version : ℕ) (book : Book) → IsOlder g version book old ⊎ HoldsBook g old book
      → IfErr result (λ fault. (fault ≡ OutOfMemory) ⊎ (fault ≡ StoreFault))
  -- and whatever rows the tables of a version have, nothing is answered but where they held a book
  pub answered : (version : ℕ) (trees : Trees) → IsFileIn version trees (state g old) → AreWholeIn version trees
      → IfOk result (λ wrote. (book : Book) × TellIn version book trees × HoldsBook g new book)
  -- a stop leaves the book, in tables of the one version or of the other
  pub stops : (version : ℕ) (book : Book) → IsOlder g version book old → LeavesEither g version book new
  -- and in those of the newest where it was in them
  pub stays : (book : Book) → HoldsBook g old book → (trees : Trees) → (state g new).may_leave trees
      → TellIn VERSION book trees
