-- What a migration says of the state that it began in, and what it may write there.
use Rattle.std.specs.Prelude.{◌≡◌, ◌⊎◌, ◌<◌, ℕ, Bool, true, false, List, Ok, ⊤}
use Rattle.sqlite.specs.Schema.{Schema}
use Rattle.sqlite.specs.Effect.{Database}
use Rattle.sqlite.specs.State.{State}
use Rattle.sqlite.specs.Tree.{Trees}
use Rattle.rtgs_book.specs.declared.account.Account.{Account}
use Rattle.rtgs_book.specs.declared.book.Book.{Book}
use Rattle.rtgs_book.specs.declared.fault.Fault.{Fault}
use Rattle.rtgs_book.specs.declared.fault.Fault.TheVariants.{OutOfMemory, StoreFault, NotADeskFile, Inconsistent}
use Rattle.rtgs_book.specs.Soundness.{IsSound}
use Rattle.rtgs_rows.specs.Content.{Content, RestsIn, Holds}
use Rattle.rtgs_rows.specs.Migrating.{HasNoMore}
use Rattle.rtgs_rows.specs.Querying.{IsFileIn}
use Rattle.rtgs_rows.specs.Tables.{IsVersion}
use Rattle.rtgs_rows.specs.declared.numbers.TheConstants.{VERSION}
use Rattle.rtgs_sql_queries.specs.Records.{HasRecords}
use Rattle.rtgs_sql_loading.specs.Accounts.{ExplainsRead, ExplainsTrees}
use Rattle.rtgs_sql_loading.specs.Displaying.{SaysVersion, SaysNoVersion, IsIllegible, ExplainsDatabase}
use Rattle.rtgs_sql_loading.specs.Loading.{LoadsFrom}
use Rattle.rtgs_sql_writes.specs.Building.{takes_a_name}

-- ---- what was judged

-- this book was loaded of tables of this version, and is sound, and no tables of another version are there
pub record IsJudged (s : State) (version : ℕ) (book : Book) : Type 0 where
  pub known : IsVersion version
  pub sound : IsSound book
  pub loads : LoadsFrom version s (Ok book)
  pub alone : (other : ℕ) (trees : Trees) → IsFileIn other trees s → other ≡ version

-- so it was with a book, and something was written where the version is an earlier one, and there alone
pub record WasJudged (s : State) (wrote : Bool) : Type 0 where
  pub version : ℕ
  pub book : Book
  pub judged : IsJudged s version book
  pub older : wrote ≡ true → version < VERSION
  pub newest : wrote ≡ false → version ≡ VERSION

-- The trees are what a migration commits. A book was judged in tables of an earlier version, and where they had its
-- records, and no more, the trees are tables of the newest version that have them.
pub record IsWritten (s : State) (trees : Trees) : Type 0 where
  pub version : ℕ
  pub book : Book
  pub judged : IsJudged s version book
  pub older : version < VERSION
  pub holds : (content : Content) → RestsIn version content s → HasNoMore version content → Holds content trees

-- ---- why nothing was

-- something has the name of a table that the version lacks
abbrev pub IsNameTaken : ℕ → Schema → Type 0
IsNameTaken version schema = takes_a_name version schema ≡ true

-- Whatever the schema is: no version is said; or the database gives no book of tables of the version that is said, or
-- a name is taken; or this is the first rule that the records break which it shows; or else the store failed or memory
-- was refused.
abbrev pub ExplainsVersions : Database → Fault → Type 0
ExplainsVersions db OutOfMemory = ⊤
ExplainsVersions db StoreFault = ⊤
ExplainsVersions db NotADeskFile = SaysNoVersion db
    ⊎ ((version : ℕ) × SaysVersion version db × (IsIllegible version db ⊎ IsNameTaken version db.schema))
ExplainsVersions db (Inconsistent rule) =
    (version : ℕ) × IsVersion version × SaysVersion version db × ExplainsDatabase version db (Inconsistent rule)

-- Why a migration answers a fault, in three ways: by the records, where the tables of a version have any; by the rows,
-- where the schema is that of a version; and by what the queries show, whatever the schema is.
pub record ExplainsMigration (s : State) (fault : Fault) : Type 0 where
  pub records : (version : ℕ) (accounts : List Account) (book : Book) → HasRecords version accounts book s
      → ExplainsRead accounts book fault
  pub rows : (version : ℕ) (trees : Trees) → IsFileIn version trees s → ExplainsTrees version trees fault
  pub shown : ExplainsVersions s.now fault
