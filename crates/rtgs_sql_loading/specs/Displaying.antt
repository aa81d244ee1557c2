-- What the queries of the tables show of a database, and why they show nothing, whatever its schema is.
use Rattle.std.specs.Prelude.{◌≡◌, ◌⊎◌, ℕ, Bool, List, [], map, ⊤}
use Rattle.sqlite.specs.Order.{Row}
use Rattle.sqlite.specs.Effect.{Database}
use Rattle.rtgs_book.specs.declared.book.Book.{Book}
use Rattle.rtgs_book.specs.declared.account.Account.{Account}
use Rattle.rtgs_book.specs.declared.fault.Fault.{Fault}
use Rattle.rtgs_book.specs.declared.fault.Fault.TheVariants.{OutOfMemory, StoreFault, NotADeskFile, Inconsistent}
use Rattle.rtgs_rows.specs.Keeping.{AreBalances}
use Rattle.rtgs_rows.specs.TableRecords.{OneOf, records_in, resolution_records}
use Rattle.rtgs_rows.specs.Tables.{HasTable, IsVersion, desk_table, order_table, forward_table, resolution_table}
use Rattle.rtgs_sql_columns.specs.Numbers.{as_read}
use Rattle.rtgs_sql_columns.specs.Tables.{query_text}
use Rattle.rtgs_sql_queries.specs.Displaying.{Displays, HasNoAnswer}
use Rattle.rtgs_sql_loading.specs.Joining.{AreOrders}
use Rattle.rtgs_sql_loading.specs.Accounts.{AreTheRecords, StoredBreaksFirst, IsOneRow, IsDeskOf, IsOneDesk, InForm}

-- ---- what they show

-- The rows are an answer to the text, and are read as these: at each place that is marked, a number below zero is read
-- as 0.
abbrev pub DisplaysAs : Database → List ℕ → List Bool → List Row → Type 0
DisplaysAs db text counted seen_rows = (rows : List Row) × Displays db text rows
    × (map (as_read counted) rows ≡ seen_rows)

-- What is read as tables of this version: each row that is shown is that of one record, in its place.
abbrev pub AreDisplayed : ℕ → Database → List Account → Book → Type 0
AreDisplayed version db = AreTheRecords version (λ table. DisplaysAs db (query_text table))

-- The queries show the records of the book, with stored balances that are the sums from scratch.
abbrev pub IsDisplayed : ℕ → Database → Book → Type 0
IsDisplayed version db book = (accounts : List Account) × AreBalances book accounts
    × AreTheRecords version (λ table _. Displays db (query_text table)) accounts book

-- ---- why they show nothing

-- the text has no answer, or one with rows that are not of this form
abbrev pub IsUnread : Database → List ℕ → (List Row → Type 0) → Type 0
IsUnread db text AreFormed = HasNoAnswer db text
    ⊎ ((rows : List Row) × Displays db text rows × ¬ AreFormed rows)

-- the query of the first table shows one row, which says this version
abbrev pub SaysVersion : ℕ → Database → Type 0
SaysVersion version db = (rows : List Row) × Displays db (query_text desk_table) rows × IsDeskOf version rows

-- it has no answer, or shows not one row, or one that says no version
abbrev pub SaysNoVersion : Database → Type 0
SaysNoVersion db = IsUnread db (query_text desk_table) IsOneDesk

-- the version has the table of the choice, and its query has no answer, or shows not one row, or one in no form
abbrev pub ShowsNoChoice : ℕ → Database → Type 0
ShowsNoChoice version db = HasTable version resolution_table
    × IsUnread db (query_text resolution_table) (IsOneRow resolution_records)

-- these are the rows of due dates that the query shows; a version without their table has none
abbrev pub DisplaysDues : ℕ → Database → List Row → Type 0
DisplaysDues version db dues = (HasTable version forward_table × Displays db (query_text forward_table) dues)
    ⊎ (¬ HasTable version forward_table × (dues ≡ []))

-- the queries show rows of orders and of due dates that are not those of orders
abbrev pub ShowsNoOrders : ℕ → Database → Type 0
ShowsNoOrders version db = (undated_orders dues : List Row) × Displays db (query_text order_table) undated_orders
    × DisplaysDues version db dues × ¬ AreOrders undated_orders dues

-- The version is not known; or the query of the first table has no answer, or shows not one row, or one that does not
-- say this version; or so it is with the table of the choice; or the query of one of the version's tables has no
-- answer, or shows a row that is in the form of no record; or a due date is of no order, or a held order has none.
abbrev pub IsIllegible : ℕ → Database → Type 0
IsIllegible version db = ¬ IsVersion version
    ⊎ IsUnread db (query_text desk_table) (IsDeskOf version)
    ⊎ ShowsNoChoice version db
    ⊎ OneOf (λ A records. IsUnread db (query_text records.table) (InForm records)) (records_in version)
    ⊎ ShowsNoOrders version db

-- Why a database gives no book of tables of this version, whatever its schema is: it cannot be read; or this is the
-- first rule that the records break which it shows; or else the store failed or memory was refused.
abbrev pub ExplainsDatabase : ℕ → Database → Fault → Type 0
ExplainsDatabase version db OutOfMemory = ⊤
ExplainsDatabase version db StoreFault = ⊤
ExplainsDatabase version db NotADeskFile = IsIllegible version db
ExplainsDatabase version db (Inconsistent rule) = (accounts : List Account) × (book : Book)
    × AreDisplayed version db accounts book × StoredBreaksFirst accounts book rule
