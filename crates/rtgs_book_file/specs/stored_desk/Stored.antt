-- A desk over the tables of a store: what an opening makes of them, and what a stop leaves. `k` has the members of the
-- keeper's trait.
use Rattle.std.specs.Prelude.{◌≡◌, ◌≢◌, ◌⊎◌, List, IsTrue}
use Rattle.sqlite.specs.Effect.{IsDatabase}
use Rattle.sqlite.specs.State.{State, HasCleanDisk}
use Rattle.sqlite.specs.Tree.{Trees}
use Rattle.rtgs_book.specs.declared.book.Book.{Book}
use Rattle.rtgs_book.specs.declared.command.Command.{Command}
use Rattle.rtgs_book.specs.declared.fault.Fault.{Fault}
use Rattle.rtgs_book.specs.declared.fault.Fault.TheVariants.{OutOfMemory, StoreFault, Inconsistent}
use Rattle.rtgs_book.specs.declared.rule.Rule.{Rule}
use Rattle.rtgs_book.specs.declared.rule.Rule.TheVariants.{Calm}
use Rattle.rtgs_book.specs.Books.{new_book}
use Rattle.rtgs_book.specs.Calm.{IsCalm}
use Rattle.rtgs_book.specs.Outcome.{Reply}
use Rattle.rtgs_book.specs.Session.{IsSession}
use Rattle.rtgs_book.specs.Soundness.{IsSound}
use Rattle.rtgs_keeper.specs.declared.keeper.Keeper.{Ghosts}
use Rattle.rtgs_rows.specs.Content.{Content, HasNoTables}
use Rattle.rtgs_rows.specs.Content as rows
use Rattle.rtgs_rows.specs.Keeping.{IsBookOf, AddsUp}
use Rattle.rtgs_rows.specs.Querying.{AreWhole}
use Rattle.rtgs_rows.specs.Tables.{desk_schema, no_schema}
use Rattle.rtgs_rows.specs.declared.numbers.TheConstants.{VERSION}
use Rattle.rtgs_tables.specs.Building.{IsBlank}
use Rattle.rtgs_tables.specs.Loading.{ExplainsTrees, IsShown, IsDisplayed, ExplainsDatabase}
use Rattle.rtgs_desk.specs.Holding.{HasInMemory, Holds}
use Rattle.rtgs_desk.specs.Seen.{Seen}

-- the tables hold the book
abbrev pub AreTablesOf : Book → Trees → Type 0
AreTablesOf book trees = (content : Content) × rows.Holds content trees × IsBookOf book content

-- the store is open, shows what it has committed, and reads it by its own schema
pub record IsAtRest (s : State) : Type 0 where
  pub is_open : IsTrue s.is_open
  pub clean : s.now ≡ s.committed
  pub sound : IsDatabase s.committed

abbrev pub IsMemoryOrStore : Fault → Type 0
IsMemoryOrStore fault = (fault ≡ OutOfMemory) ⊎ (fault ≡ StoreFault)

-- no table, index or view is in the database
abbrev pub HasNoSchema : State → Type 0
HasNoSchema s = s.now.schema ≡ no_schema

-- The tables of a new book were made in a database that had none. A stop leaves them.
pub record IsMade (old new : State) : Type 0 where
  pub blank : HasNoSchema old
  pub honest : HasCleanDisk new → HasCleanDisk old
  pub leaves : HasCleanDisk new → IsBlank old → (trees : Trees) → new.may_leave trees → AreTablesOf new_book trees

-- No new book was made, or none was opened. A stop leaves no tables, or those of the new book.
pub record IsUnmade (fault : Fault) (new : State) : Type 0 where
  pub cause : IsMemoryOrStore fault
  pub leaves : (trees : Trees) → new.may_leave trees → HasNoTables trees ⊎ AreTablesOf new_book trees

-- the desk was opened over what the store had committed
pub record IsOver {K : Type 0} (k : Ghosts K) (old : State) (desk : Seen K) (new : State) : Type 0 where
  -- where the tables held a book, the desk holds it, and it is calm
  pub held : (book : Book) → AreTablesOf book old.committed.trees → Holds k desk book
  -- over the tables of a desk, whatever values their rows have, there is a desk only where they held a book
  pub kept : old.committed.schema ≡ desk_schema → AreWhole old.committed.trees
      → (book : Book) × AreTablesOf book old.committed.trees × Holds k desk book
  -- whatever tables there were, the desk has in memory the book that the queries show of them, with each stored balance
  -- the sum from scratch
  pub shown : (book : Book) × HasInMemory desk book × IsDisplayed VERSION old.now book
  -- and over a database that has no tables there is none
  pub some : HasNoTables old.committed.trees → ⊥
  -- a stop leaves what was found
  pub leaves : (trees : Trees) → new.may_leave trees → trees ≡ old.committed.trees

-- a sound book that is so shown is not calm, and the fault names that rule
abbrev pub IsNotCalmAs : (Book → Type 0) → Fault → Type 0
IsNotCalmAs IsShownAs fault =
    (fault ≡ Inconsistent Calm) × ((book : Book) × IsSound book × IsShownAs book × ¬ IsCalm book)

-- no desk was opened over what the store had committed
pub record IsRefused (old : State) (fault : Fault) (new : State) : Type 0 where
  -- tables that hold a calm book are refused for lack of memory or a fault of the store alone
  pub cause : (book : Book) → AreTablesOf book old.committed.trees → IsCalm book → IsMemoryOrStore fault
  -- and those that hold any book by the rule that it is calm besides
  pub restless : (book : Book) → AreTablesOf book old.committed.trees
      → IsMemoryOrStore fault ⊎ (fault ≡ Inconsistent Calm)
  -- over the schema of a desk the rows explain the fault: one is malformed, or this is the first rule that they break;
  -- or they are those of a sound book that is not calm
  pub explained : old.committed.schema ≡ desk_schema
      → ExplainsTrees VERSION old.committed.trees fault ⊎ IsNotCalmAs (IsShown VERSION old.committed.trees) fault
  -- whatever tables there were, a query has no answer over them, or shows a malformed row; or this is the first rule
  -- that the records break which the queries show; or the queries show a sound book that is not calm; or memory was
  -- refused or the store failed
  pub by_queries : ExplainsDatabase VERSION old.now fault ⊎ IsNotCalmAs (IsDisplayed VERSION old.now) fault
  -- a database that has no tables breaks no rule
  pub no_rule : HasNoTables old.committed.trees → (rule : Rule) → fault ≢ Inconsistent rule
  -- a stop leaves what was found
  pub leaves : (trees : Trees) → new.may_leave trees → trees ≡ old.committed.trees

-- What a stop leaves after these commands: tables that hold a book which a session of the definitions may find, and
-- which is calm, and stored balances that add up to the postings' cents.
pub record AreLeft (start : Book) (commands : List Command) (replies : List Reply) (trees : Trees) : Type 0 where
  pub found : Book
  pub session : IsSession (record { start = start; commands = commands; replies = replies; found = found })
  pub calm : IsCalm found
  pub content : Content
  pub holds : rows.Holds content trees
  pub records : IsBookOf found content
  pub adds_up : AddsUp content

-- whatever trees a stop leaves are such
abbrev pub StopLeaves : Book → List Command → List Reply → State → Type 0
StopLeaves start commands replies s = (trees : Trees) → s.may_leave trees → AreLeft start commands replies trees
