-- What a reading says of the state that it began in.
use Rattle.std.specs.Prelude.{◌≡◌, ◌≢◌, ◌⊎◌, ℕ, List, [], ◌∷◌, map, Err, Result, IfOk, IfErr}
use Rattle.std.specs.List.{AllByRecursion}
use Rattle.std.proofs.Common.{subst}
use Rattle.sqlite.specs.State.{State, HasCleanDisk, Survives}
use Rattle.sqlite.specs.Tree.{Trees}
use Rattle.sqlite.specs.declared.error.Error.{Error}
use Rattle.sqlite.specs.declared.error.Error.TheVariants.{SqliteFailure}
use Rattle.sqlite.specs.declared.error.ErrorCode.TheVariants as code
use Rattle.rtgs_book.specs.declared.account.Account.{Account}
use Rattle.rtgs_book.specs.declared.book.Book.{Book}
use Rattle.rtgs_book.specs.declared.fault.Fault.{Fault}
use Rattle.rtgs_book.specs.declared.fault.Fault.TheVariants.{OutOfMemory, StoreFault, NotADeskFile}
use Rattle.sqlite.specs.Effect.{Database}
use Rattle.rtgs_rows.specs.Keeping.{AreBalances}
use Rattle.rtgs_rows.specs.Migrating.{TellIn}
use Rattle.rtgs_rows.specs.Querying.{as_shown, IsFileIn, AreWholeIn}
use Rattle.rtgs_rows.specs.Tables.{HasTable, IsVersion}
use Rattle.rtgs_rows.specs.declared.desk_row.DeskRow.{DeskRow}
use Rattle.rtgs_rows.specs.TableRecords.{TableRecords, desk_records, at_first}
use Rattle.rtgs_sql_columns.specs.Numbers.{AreReadAs}
use Rattle.rtgs_sql_columns.specs.Tables.{query_text}
use Rattle.rtgs_sql_queries.specs.Answering.{KeepsTables}
use Rattle.rtgs_sql_queries.specs.Displaying.{Displays}
use Rattle.rtgs_sql_queries.specs.Faults.{IsOfStore}
use Rattle.rtgs_sql_queries.specs.Records.{HasRecords}
use Rattle.rtgs_sql_queries.specs.TableQueries.{ShowsSorted}
use Rattle.sqlite.specs.Order.{Row}
use Rattle.rtgs_sql_loading.specs.Accounts.{Telling, AreRowsIn, AreReadOf, ExplainsRead, ExplainsTrees, IsShown}
use Rattle.rtgs_sql_loading.specs.Displaying.{DisplaysAs, AreDisplayed, IsDisplayed, ExplainsDatabase}

-- nothing is written: a clean disk was clean before, and the tables and what the database shows stay
pub record ReadsOn (old new : State) : Type 0 where
  pub clean : HasCleanDisk new → HasCleanDisk old
  pub keeps : HasCleanDisk new → KeepsTables old new
  pub same : HasCleanDisk new → new.now ≡ old.now
  pub survives : Survives old new (λ _. ⊥)

-- a table has these rows: by its tree, where the schema is that of this version, and by what its query shows
abbrev pub HasRows : ℕ → State → Telling
HasRows version s table counted seen_rows = ((trees : Trees) → IsFileIn version trees s
    → AreRowsIn trees table counted seen_rows) × DisplaysAs s.now (query_text table) counted seen_rows

-- These records are read of a table of this version: they are those that it has, where the tables have any, and each is
-- in its form. Their rows are those of the table where the version has it, and where it has not they are those of a new
-- desk.
pub record ReadsRecords {A : Type 0} (version : ℕ) (records : TableRecords A) (s : State) (all : List A) : Type 0 where
  pub given : (accounts : List Account) (book : Book) → HasRecords version accounts book s
      → all ≡ records.of_book version accounts book
  pub fit : AllByRecursion records.fits all
  pub has_rows : HasTable version records.table
      → HasRows version s records.table records.counted (map records.shown all)
  pub had : IsVersion version → HasTable version records.table
      ⊎ (¬ HasTable version records.table × (all ≡ at_first version records))

-- it was there before what was read first
pub read_after : {A : Type 0} {version : ℕ} {records : TableRecords A} {first old : State} {all : List A}
    → ReadsOn first old → HasCleanDisk old → ReadsRecords version records old all
    → ReadsRecords version records first all
read_after {version = version} {records = records} {all = all} on clean reads = record {
  given = λ accounts book held.
      reads.given accounts book (held.0, (on.keeps clean).rests version held.0 held.1, held.2, held.3);
  fit = reads.fit;
  has_rows = λ has. (
    λ trees file. (reads.has_rows has).0 trees ((on.keeps clean).file version trees file),
    subst (λ now. DisplaysAs now (query_text records.table) records.counted (map records.shown all)) (on.same clean)
        (reads.has_rows has).1,
  );
  had = reads.had;
}

-- These records are read of the rows that the query shows of the table, and no others.
pub record ReadsRows {A : Type 0} (version : ℕ) (records : TableRecords A) (s : State) (all : List A) : Type 0 where
  pub rows : List Row
  pub read : AreReadAs records rows all
  pub only : (others : List A) → AllByRecursion records.fits others → AreReadAs records rows others → all ≡ others
  pub displayed : Displays s.now (query_text records.table) rows
  pub sorted : (trees : Trees) → IsFileIn version trees s → ShowsSorted records.table trees rows

-- so it is with the table of a list of records, where the version has it
pub record ReadsList {A : Type 0} (version : ℕ) (records : TableRecords A) (s : State) (all : List A) : Type 0 where
  pub reads : ReadsRecords version records s all
  pub rows : HasTable version records.table → ReadsRows version records s all

pub list_after : {A : Type 0} {version : ℕ} {records : TableRecords A} {first old : State} {all : List A}
    → ReadsOn first old → HasCleanDisk old → ReadsList version records old all → ReadsList version records first all
list_after {version = version} {records = records} on clean list = record {
  reads = read_after on clean list.reads;
  rows = λ has.
      let its = list.rows has in
      record {
        rows = its.rows;
        read = its.read;
        only = its.only;
        displayed = subst (λ now. Displays now (query_text records.table) its.rows) (on.same clean) its.displayed;
        sorted = λ trees file. its.sorted trees ((on.keeps clean).file version trees file);
      };
}

-- This is what the one row of a table says: by the records, where the tables of a version that has it have any; by its
-- rows, where the schema is that of such a version; and by what the query shows, whatever the schema is.
pub record ReadsOne {A : Type 0} (records : TableRecords A) (s : State) (it : A) : Type 0 where
  pub given : (version : ℕ) → HasTable version records.table → (accounts : List Account) (book : Book)
      → HasRecords version accounts book s → it ∷ [] ≡ records.of_book version accounts book
  pub rows : (version : ℕ) → HasTable version records.table → (trees : Trees) → IsFileIn version trees s
      → AreReadAs records (as_shown records.table trees) (it ∷ [])
  pub shown : DisplaysAs s.now (query_text records.table) records.counted (records.shown it ∷ [])
  pub fit : records.fits it

-- so the first table
abbrev pub ReadsDesk : State → DeskRow → Type 0
ReadsDesk = ReadsOne desk_records

-- this record alone is read of a table of this version
abbrev pub ReadsAlone : {A : Type 0} → ℕ → TableRecords A → State → A → Type 0
ReadsAlone version records s it = ReadsRecords version records s (it ∷ [])

-- What is read of this version, in three ways: these are the records, where the tables have any; the rows tell them,
-- where the schema is that of the version; and the queries show them, whatever the schema is.
pub record TellsRecords (version : ℕ) (s : State) (accounts : List Account) (book : Book) : Type 0 where
  pub records : (others : List Account) (other : Book) → HasRecords version others other s
      → (book ≡ other) × (accounts ≡ others)
  pub rows : (trees : Trees) → IsFileIn version trees s → AreReadOf version trees accounts book
  pub displayed : AreDisplayed version s.now accounts book

-- Where a reading answers `NotADeskFile`, the tables of this version have no records; the trees are bad, where the
-- schema is that of the version; and the database cannot be read, whatever the schema is, if the version is known. The
-- tables stay unless the store failed.
pub record Stops {A : Type 0} (version : ℕ) (old new : State) (result : Result A Fault) (AreBad : Trees → Type 0)
    (IsUnread : Database → Type 0) : Type 0 where
  pub right : HasCleanDisk new → (accounts : List Account) (book : Book) → HasRecords version accounts book old
      → result ≢ Err NotADeskFile
  pub wrong : HasCleanDisk new → (trees : Trees) → IsFileIn version trees old → result ≡ Err NotADeskFile
      → AreBad trees
  pub unread : HasCleanDisk new → IsVersion version → result ≡ Err NotADeskFile → IsUnread old.now
  pub same : HasCleanDisk new → result ≢ Err StoreFault → KeepsTables old new
  pub survives : Survives old new (λ _. ⊥)

-- How the error of a query is passed on: as lack of memory only if it was that, and as no desk's tables exactly if it
-- is no error of the store.
pub record TellsError (error : Error) (fault : Fault) : Type 0 where
  pub cause : fault ≡ OutOfMemory → error ≡ SqliteFailure code.OutOfMemory
  pub right : IsOfStore error → (fault ≡ OutOfMemory) ⊎ (fault ≡ StoreFault)
  pub wrong : fault ≡ NotADeskFile → ¬ IsOfStore error
  pub foreign : ¬ IsOfStore error → fault ≡ NotADeskFile

-- What a loading of this version answers, a book or why there is none: by the records, where the tables have any; by
-- the rows, where the schema is that of the version; and by what the queries show, whatever the schema is. A version
-- that is not known is answered as no desk's.
pub record LoadsFrom (version : ℕ) (s : State) (result : Result Book Fault) : Type 0 where
  pub read : (accounts : List Account) (book : Book) → HasRecords version accounts book s
      → IfOk result (λ loaded. (loaded ≡ book) × AreBalances book accounts)
  pub explained : (accounts : List Account) (book : Book) → HasRecords version accounts book s
      → IfErr result (ExplainsRead accounts book)
  pub held : (trees : Trees) → IsFileIn version trees s → AreWholeIn version trees
      → IfOk result (λ book. TellIn version book trees)
  pub shown : (trees : Trees) → IsFileIn version trees s → IfOk result (IsShown version trees)
  pub caused : (trees : Trees) → IsFileIn version trees s → IfErr result (ExplainsTrees version trees)
  pub displayed : IfOk result (IsDisplayed version s.now)
  pub by_queries : IfErr result (ExplainsDatabase version s.now)
  pub unknown : ¬ IsVersion version → result ≡ Err NotADeskFile
