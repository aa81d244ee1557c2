-- What a loading of the book says of the state that it began in, and what it leaves.
use Rattle.std.specs.Prelude.{◌≡◌, ◌≢◌, ◌⊎◌, List, Err, Result, IfOk, IfErr}
use Rattle.sqlite.specs.Held.{Held, state}
use Rattle.sqlite.specs.State.{State}
use Rattle.sqlite.specs.Tree.{Trees}
use Rattle.sqlite_trees.specs.declared.store.Store.{Ghosts}
use Rattle.rtgs_book.specs.declared.account.Account.{Account}
use Rattle.rtgs_book.specs.declared.book.Book.{Book}
use Rattle.rtgs_book.specs.declared.fault.Fault.{Fault}
use Rattle.rtgs_book.specs.declared.fault.Fault.TheVariants.{OutOfMemory, StoreFault, Inconsistent}
use Rattle.rtgs_book.specs.declared.rule.Rule.{Rule}
use Rattle.rtgs_rows.specs.Keeping.{HoldsBook, MayLeave, IsWhole}
use Rattle.rtgs_rows.specs.Querying.{IsDeskFile, HasTables}
use Rattle.rtgs_rows.specs.declared.numbers.TheConstants.{VERSION}
use Rattle.rtgs_sql_columns.specs.Blank.{IsBlank}
use Rattle.rtgs_sql_queries.specs.Records.{HasRecords}
use Rattle.rtgs_sql_loading.specs.Accounts.{ExplainsRead}
pub use Rattle.rtgs_sql_loading.specs.Accounts.{ExplainsTrees, IsShown}
pub use Rattle.rtgs_sql_loading.specs.Displaying.{IsDisplayed, ExplainsDatabase}

-- Why no book is given, in three ways: by the records, where the tables have any; by the rows, where the schema is a
-- desk's; and by what the queries show, whatever the schema is.
abbrev pub ExplainsLoad : State → Fault → Type 0
ExplainsLoad s fault = ((accounts : List Account) (book : Book) → HasRecords VERSION accounts book s
    → ExplainsRead accounts book fault)
    × (((trees : Trees) → IsDeskFile trees s → ExplainsTrees VERSION trees fault)
    × ExplainsDatabase VERSION s.now fault)

-- The queries show the records of the book, with stored balances that are the sums from scratch.
abbrev pub ShowsBalanced : State → Book → Type 0
ShowsBalanced s book = ((trees : Trees) → IsDeskFile trees s → IsShown VERSION trees book)
    × IsDisplayed VERSION s.now book

-- whatever a stop leaves in the second state, it could leave in the first
abbrev pub MayLeaveNoMore : State → State → Type 0
MayLeaveNoMore old new = (trees : Trees) → new.may_leave trees → old.may_leave trees

-- what a loading answers over a connection: the book that it holds, and else why none is given
pub record AnswersBook {S : Type 0} (g : Ghosts S) (old new : Held S) (result : Result Book Fault) : Type 0 where
  pub given : (book : Book) → HoldsBook g old book → IfOk result (λ loaded. loaded ≡ book)
  pub accepted : (book : Book) → HoldsBook g old book
      → IfErr result (λ fault. (fault ≡ OutOfMemory) ⊎ (fault ≡ StoreFault))
  pub explained : IfErr result (ExplainsLoad (state g old))
  pub shown : IfOk result (ShowsBalanced (state g old))
  pub kept : HasTables g old → IfOk result (HoldsBook g new)
  pub empty : IsBlank (state g old) → IfOk result (λ _. ⊥) × ((rule : Rule) → result ≢ Err (Inconsistent rule))

-- what a reading leaves of a connection: the book, unless the store failed; a stop leaves what it could leave before
pub record LeavesConnection {S A : Type 0} (g : Ghosts S) (old new : Held S) (result : Result A Fault) : Type 0 where
  pub same : (book : Book) → HoldsBook g old book → result ≢ Err StoreFault → HoldsBook g new book
  pub stops : (other : Book) → MayLeave g new other → MayLeave g old other
  pub untouched : MayLeaveNoMore (state g old) (state g new)
  pub whole : IsWhole g old → IsWhole g new
