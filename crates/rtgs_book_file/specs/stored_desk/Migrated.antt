-- What a migration makes of the tables of a store, and why it makes nothing of them.
use Rattle.std.specs.Prelude.{◌≡◌, ◌≢◌, ◌⊎◌, ◌<◌, ℕ, Bool, true, false}
use Rattle.sqlite.specs.State.{State}
use Rattle.sqlite.specs.Tree.{Trees}
use Rattle.rtgs_book.specs.Calm.{IsCalm}
use Rattle.rtgs_book.specs.Soundness.{IsSound}
use Rattle.rtgs_book.specs.declared.book.Book.{Book}
use Rattle.rtgs_book.specs.declared.fault.Fault.{Fault}
use Rattle.rtgs_book.specs.declared.fault.Fault.TheVariants.{StoreFault, Inconsistent}
use Rattle.rtgs_book.specs.declared.rule.Rule.{Rule}
use Rattle.rtgs_rows.specs.Content.{HasNoTables}
use Rattle.rtgs_rows.specs.Migrating.{TellIn}
use Rattle.rtgs_rows.specs.Querying.{AreWhole, AreWholeIn}
use Rattle.rtgs_rows.specs.Tables.{IsVersion, desk_schema, schema_in}
use Rattle.rtgs_rows.specs.declared.numbers.TheConstants.{VERSION}
use Rattle.rtgs_tables.specs.Loading.{ExplainsTrees, IsDisplayed}
use Rattle.rtgs_tables.specs.Migrating.{ExplainsVersions, IsWritten}
use Rattle.rtgs_book_file.specs.stored_desk.Stored.{AreTablesOf, IsMemoryOrStore}

-- tables of an earlier version, which is known, hold the book, all of it
pub record AreOlderTablesOf (book : Book) (trees : Trees) : Type 0 where
  pub version : ℕ
  pub known : IsVersion version
  pub earlier : version < VERSION
  pub tells : TellIn version book trees

-- tables of a version, an earlier one or the newest, hold the book
abbrev pub AreSomeTablesOf : Book → Trees → Type 0
AreSomeTablesOf book trees = AreOlderTablesOf book trees ⊎ AreTablesOf book trees

-- tables of an earlier version were made those of the newest
pub record IsMigrated (old new : State) : Type 0 where
  -- the queries showed a sound book in tables of an earlier version, with each stored balance the sum from scratch
  pub shown : (version : ℕ) × (version < VERSION) × (book : Book) × IsSound book × IsDisplayed version old.now book
  -- over the tables of a version, whatever values their rows have, this is done only where they are earlier ones and
  -- held a book
  pub kept : (version : ℕ) → IsVersion version → old.committed.schema ≡ schema_in version
      → AreWholeIn version old.committed.trees → (book : Book) × AreOlderTablesOf book old.committed.trees
  -- and a stop leaves the same book, in tables of the newest version
  pub held : (book : Book) → AreOlderTablesOf book old.committed.trees → (trees : Trees) → new.may_leave trees
      → AreTablesOf book trees
  -- which is calm, since earlier tables have no automatic day
  pub calm : (book : Book) → AreOlderTablesOf book old.committed.trees → IsCalm book
  -- in which there was none before
  pub not_newest : (book : Book) → AreTablesOf book old.committed.trees → ⊥
  -- and over a database that has no tables this is not done
  pub some : HasNoTables old.committed.trees → ⊥

-- the tables were of the newest version before, and stayed as they were
pub record IsUpToDate (old new : State) : Type 0 where
  -- the sound book that the queries showed, with each stored balance the sum from scratch
  pub shown : (book : Book) × IsSound book × IsDisplayed VERSION old.now book
  -- over the tables of a desk, whatever values their rows have, this is so only where they held a book
  pub kept : old.committed.schema ≡ desk_schema → AreWhole old.committed.trees
      → (book : Book) × AreTablesOf book old.committed.trees
  -- and no earlier ones did
  pub not_older : (book : Book) → AreOlderTablesOf book old.committed.trees → ⊥
  -- nor is a database so that has no tables
  pub some : HasNoTables old.committed.trees → ⊥
  -- a stop leaves what was found
  pub leaves : (trees : Trees) → new.may_leave trees → trees ≡ old.committed.trees

-- what a migration was: it wrote, or there was nothing to write
abbrev pub WasMigration : Bool → State → State → Type 0
WasMigration true old new = IsMigrated old new
WasMigration false old new = IsUpToDate old new

-- the tables were not brought to the newest version
pub record IsUnmigrated (old : State) (fault : Fault) (new : State) : Type 0 where
  -- tables that hold a book are refused for lack of memory or a fault of the store alone
  pub cause : (book : Book) → AreSomeTablesOf book old.committed.trees → IsMemoryOrStore fault
  -- over the schema of a version the rows explain the fault: one is malformed, or this is the first rule that they
  -- break
  pub explained : (version : ℕ) → IsVersion version → old.committed.schema ≡ schema_in version
      → ExplainsTrees version old.committed.trees fault
  -- whatever tables there were, what the queries show explains it, or memory was refused or the store failed
  pub by_queries : ExplainsVersions old.now fault
  -- a database that has no tables breaks no rule
  pub no_rule : HasNoTables old.committed.trees → (rule : Rule) → fault ≢ Inconsistent rule
  -- a stop leaves what was found
  pub leaves : fault ≢ StoreFault → (trees : Trees) → new.may_leave trees → trees ≡ old.committed.trees
  -- or, where the store failed, what a migration writes over it
  pub stops : (trees : Trees) → new.may_leave trees → (trees ≡ old.committed.trees) ⊎ IsWritten old trees
  -- so a book that earlier tables held is left in them, whole, or in those of the newest version
  pub held : (book : Book) → AreOlderTablesOf book old.committed.trees → (trees : Trees) → new.may_leave trees
      → AreSomeTablesOf book trees
  -- and one that was in those before stays there
  pub stays : (book : Book) → AreTablesOf book old.committed.trees → (trees : Trees) → new.may_leave trees
      → AreTablesOf book trees
