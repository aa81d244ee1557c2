-- What the laws of rows say. `laws` proves each.
use Rattle.std.specs.Prelude.{◌≡◌, ℕ, List, map}
use Rattle.std.specs.List.{AllByRecursion}
use Rattle.std.specs.Ordering.{int_cmp}
use Rattle.std.specs.declared.cmp.Ordering.TheVariants.{Less}
use mathlib.Core.Bool.{Bool-set}
use mathlib.Core.HLevel.{Π_prop, ×_prop}
use native.Mathlib.Nat.{ℕ_set}
use Rattle.sqlite.specs.Order.{Row}
use Rattle.sqlite_trees.specs.Props.{Ordering-set, AllByRecursion-prop, IsAscending-prop}
use Rattle.sqlite.specs.Edit.{next_rowid}
use Rattle.sqlite.specs.Schema.{Schema}
use Rattle.sqlite.specs.Tree.{Trees}
use Rattle.sqlite_catalog.specs.Listing.{IsSound}
use Rattle.rtgs_book.specs.declared.account.Account.{Account}
use Rattle.rtgs_book.specs.declared.book.Book.{Book}
use Rattle.rtgs_book.specs.declared.change.RowChange.{RowChange}
use Rattle.rtgs_book.specs.Changes.{IsChange}
use Rattle.rtgs_book.specs.Soundness.{IsSound as IsSoundBook}
use Rattle.rtgs_rows.specs.Content.{Holding, Content, HasNoTables, Holds, IsInOrder, AreInOrder, holding_row}
use Rattle.rtgs_rows.specs.Content.{tables_for, with_changes, Rise}
use Rattle.rtgs_rows.specs.Fitting.{FitsRow, HasFormedValues}
use Rattle.rtgs_rows.specs.Keeping.{IsBookOf, AreBalances}
use Rattle.rtgs_rows.specs.Migrating.{TellIn}
use Rattle.rtgs_rows.specs.Tables.{IsVersion, no_schema, schema_in, tables_in, width}
use Rattle.rtgs_rows.specs.declared.numbers.TheConstants.{VERSION}
use Rattle.rtgs_rows.specs.Querying.{AreWhole, AreWholeIn, AreNumberedRows, ShowsBook}

-- no key comes twice in the rows of a book, and each list stands in the order of its row numbers
abbrev pub RecordsStandInOrder : Type 0
RecordsStandInOrder = (book : Book) (content : Content) → IsBookOf book content → IsInOrder content

-- so it is before each row of a change, and after the last
abbrev pub ChangesStandInOrder : Type 0
ChangesStandInOrder = (old new : Book) (rows : List RowChange) (content : Content) → IsBookOf old content
    → IsChange old rows new → AreInOrder content rows

-- the rows that a change makes are those of the book after it, where its values are in their forms
abbrev pub ChangedRowsAreTheBook : Type 0
ChangedRowsAreTheBook = (old new : Book) (rows : List RowChange) (content : Content) → IsBookOf old content
    → IsChange old rows new → AllByRecursion FitsRow rows → IsBookOf new (with_changes content rows)

-- the row number that comes next is above all
abbrev pub NextRowIsAbove : Type 0
NextRowIsAbove = (holdings : List Holding) → Rise (λ (h : Holding). h.id) holdings
    → AllByRecursion (λ (h : Holding). int_cmp h.id (next_rowid (map holding_row holdings)) ≡ Less) holdings

-- tables hold one book at most
abbrev pub RowsTellTheBook : Type 0
RowsTellTheBook = (one other : Book) (content same : Content) → IsBookOf one content → IsBookOf other same
    → tables_for content ≡ tables_for same → other ≡ one

-- a database that has no tables is read as one
abbrev pub NoTablesAreReadAsNone : Type 0
NoTablesAreReadAsNone = (schema : Schema) (trees : Trees) → HasNoTables trees → IsSound schema trees
    → schema ≡ no_schema

-- a database of the tables of a version is read with their schema
abbrev pub DesksAreReadAsSuch : Type 0
DesksAreReadAsSuch = (version : ℕ) (schema : Schema) (trees : Trees) → IsSound (schema_in version) trees
    → IsSound schema trees → schema ≡ schema_in version

-- where the queries show the records of a sound book, with its balances stored, the tables of a version hold that book,
-- all of it
abbrev pub ShownRecordsAreHeld : Type 0
ShownRecordsAreHeld = (version : ℕ) → IsVersion version → (trees : Trees) (book : Book) (accounts : List Account)
    → IsSound (schema_in version) trees → AreWholeIn version trees → IsSoundBook book → HasFormedValues book
    → ShowsBook version trees accounts book → AreBalances book accounts → TellIn version book trees

-- a database that has no tables holds no book
abbrev pub NoTablesHoldNoBook : Type 0
NoTablesHoldNoBook = (trees : Trees) (content : Content) → HasNoTables trees → Holds content trees → ⊥

-- tables that hold a book are whole
abbrev pub TablesOfABookAreWhole : Type 0
TablesOfABookAreWhole = (trees : Trees) (book : Book) (content : Content) → Holds content trees → IsBookOf book content
    → AreWhole trees

-- ---- so a value can carry the last of them: it is a fact, which is proved in one way

AreNumberedRows-prop : (width : ℕ) (rows : List Row) → IsProp (AreNumberedRows width rows)
AreNumberedRows-prop width rows = ×_prop (IsAscending-prop _ (λ a b. Ordering-set _ Less) rows)
    (AllByRecursion-prop _ (λ row. ×_prop (Bool-set _ _) (ℕ_set _ _)) rows)

AreWhole-prop : (trees : Trees) → IsProp (AreWhole trees)
AreWhole-prop trees = AllByRecursion-prop _ (λ table. AreNumberedRows-prop (width table) (trees table.tree))
    (tables_in VERSION)

pub TablesOfABookAreWhole-prop : IsProp TablesOfABookAreWhole
TablesOfABookAreWhole-prop = Π_prop (λ trees. Π_prop (λ book. Π_prop
    (λ content. Π_prop (λ holds. Π_prop (λ of. AreWhole-prop trees)))))
