-- The tables of a desk as the queries show them.
use Rattle.std.specs.Prelude.{◌≡◌, ℕ, ◌+◌, List, length, map, IsTrue, IsPermutation}
use Rattle.std.specs.List.{AllByRecursion}
use Rattle.sqlite.specs.Order.{Row, column}
use Rattle.sqlite.specs.Table.{Table}
use Rattle.sqlite.specs.Tree.{Trees}
use Rattle.sqlite.specs.State.{State}
use Rattle.sqlite.specs.Held.{Held, state}
use Rattle.sqlite_trees.specs.declared.store.Store.{Ghosts}
use Rattle.sqlite_trees.specs.Tree.{rowid, IsTable}
use Rattle.sqlite_trees.specs.View.{is_int}
use Rattle.rtgs_book.specs.declared.book.Book.{Book}
use Rattle.rtgs_book.specs.declared.account.Account.{Account}
use Rattle.rtgs_rows.specs.declared.numbers.TheConstants.{VERSION}
use Rattle.rtgs_rows.specs.Tables.{IsVersion, schema_in, tables_in, width, places}
use Rattle.rtgs_rows.specs.TableRecords.{Each, records_in, HasNoMoreBeyond}

-- outside a transaction, with the tables of this version, which is known, and these trees committed
pub record IsFileIn (version : ℕ) (trees : Trees) (s : State) : Type 0 where
  pub known : IsVersion version
  pub is_open : IsTrue s.is_open
  pub schema : s.committed.schema ≡ schema_in version
  pub trees_are : s.committed.trees ≡ trees
  pub clean : s.now ≡ s.committed

-- so with the tables of the version in which new ones are made
abbrev pub IsDeskFile : Trees → State → Type 0
IsDeskFile = IsFileIn VERSION

-- rows of this many values, under row numbers that are whole and rise
abbrev pub AreNumberedRows : ℕ → List Row → Type 0
AreNumberedRows width rows = IsTable rows × AllByRecursion
    (λ row. IsTrue (is_int (rowid row)) × (length row ≡ width + 1)) rows

-- Each row of each table of a version has a value in each column, and the rows stand in the order of their numbers.
-- (A row from before a column was added lacks it, and the queries show null there.)
abbrev pub AreWholeIn : ℕ → Trees → Type 0
AreWholeIn version trees =
    AllByRecursion (λ table. AreNumberedRows (width table) (trees table.tree)) (tables_in version)

-- so those of the version in which new tables are made
abbrev pub AreWhole : Trees → Type 0
AreWhole = AreWholeIn VERSION

-- the connection has the tables of a desk, and each row of them has all its columns, whatever its values are
abbrev pub HasTables : {S : Type 0} → Ghosts S → Held S → Type 0
HasTables g h = IsDeskFile (state g h).committed.trees (state g h) × AreWhole (state g h).committed.trees

-- the values of a row at these places
abbrev pub picked : List ℕ → Row → Row
picked places row = map (column row) places

-- the rows of the table, without the row number where no column is it
abbrev pub as_shown : Table → Trees → List Row
as_shown table trees = map (picked (places table)) (trees table.tree)

-- these are they, in whatever order
abbrev pub ShowsTable : Table → Trees → List Row → Type 0
ShowsTable table trees = IsPermutation (as_shown table trees)

-- so with the records that a book has of each table of this version
abbrev pub ShowsEach : ℕ → Trees → List Account → Book → Type 0
ShowsEach version trees accounts book = Each (λ A records. ShowsTable records.table trees
    (map records.shown (records.of_book version accounts book))) (records_in version)

-- What the queries show are the records of the book, all of them, and these accounts with their stored balances.
pub record ShowsBook (version : ℕ) (trees : Trees) (accounts : List Account) (book : Book) : Type 0 where
  pub named : book.participants ≡ map (λ (a : Account). a.participant) accounts
  pub shows : ShowsEach version trees accounts book
  pub no_more : HasNoMoreBeyond version accounts book
