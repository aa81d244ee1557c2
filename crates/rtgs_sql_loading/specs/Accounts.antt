-- The records of the tables as they are read, and what an opening says of them.
use Rattle.std.specs.Prelude.{◌≡◌, ◌≢◌, ◌⊎◌, ◌<◌, ◌≤◌, ℕ, ℤ, Bool, false, List, [], ◌∷◌, map, option_map, unwrap_or}
use Rattle.std.specs.Prelude.{IsPermutation}
use Rattle.std.specs.Prelude.{⊤}
use Rattle.std.specs.List.{AllByRecursion}
use Rattle.std.specs.BTreeMap.{BTreeMap, get}
use Rattle.std.specs.Ordering.{nat_cmp, int_eq}
use Rattle.std.specs.Cmp.Lexicographic.{slice_cmp}
use Rattle.sqlite.specs.Order.{Row}
use Rattle.sqlite.specs.Table.{Table}
use Rattle.sqlite.specs.Tree.{Trees}
use Rattle.rtgs_book.specs.declared.book.Book.{Book}
use Rattle.rtgs_book.specs.declared.fault.Fault.{Fault}
use Rattle.rtgs_book.specs.declared.fault.Fault.TheVariants.{OutOfMemory, StoreFault, NotADeskFile, Inconsistent}
use Rattle.rtgs_book.specs.declared.rule.Rule.{Rule}
use Rattle.rtgs_book.specs.declared.rule.Rule.TheVariants.{StoredBalances, Calm}
use Rattle.rtgs_book.specs.Judgement.{Keeps, BreaksFirst, rule_number}
use Rattle.rtgs_rows.specs.Dues.{IsHeldByDue}
use Rattle.rtgs_rows.specs.Fitting.{HasFormedValues}
use Rattle.rtgs_rows.specs.Keeping.{AreBalances}
use Rattle.rtgs_rows.specs.Querying.{as_shown, ShowsBook}
use Rattle.rtgs_rows.specs.TableRecords.{TableRecords, Each, HasNoMoreBeyond, records_in, desk_records}
use Rattle.rtgs_rows.specs.TableRecords.{resolution_records}
use Rattle.rtgs_rows.specs.Tables.{HasTable, desk_table, order_table, forward_table, resolution_table}
use Rattle.rtgs_sql_columns.specs.Numbers.{as_read, AreReadAs, IsFormed}
use Rattle.rtgs_sql_queries.specs.TableQueries.{ShowsSorted}
use Rattle.rtgs_sql_loading.specs.Joining.{AreOrders}
use Rattle.rtgs_book.specs.declared.account.Account.{Account}

-- the rows of a table as its query shows them and as they are read, in some order
abbrev pub AreRowsIn : Trees → Table → List Bool → List Row → Type 0
AreRowsIn trees table counted = IsPermutation (map (as_read counted) (as_shown table trees))

-- ---- of all tables

-- what is said of a table, of the places of its numbers that are read as 0 where they are below zero, and of rows
abbrev pub Telling : Type 1
Telling = Table → List Bool → List Row → Type 0

-- so it is said of the rows of those records that a book has of a table of this version
abbrev pub TellsOf : ℕ → Telling → List Account → Book → (A : Type 0) → TableRecords A → Type 0
TellsOf version Tells accounts book A records =
    Tells records.table records.counted (map records.shown (records.of_book version accounts book))

-- These are the records of the tables that this version has, all of them: each value is in its form and range, each
-- held order has a due date, and `Tells` holds of each table and of the rows of its records.
pub record AreTheRecords (version : ℕ) (Tells : Telling) (accounts : List Account) (book : Book) : Type 0 where
  pub fits : HasFormedValues book
  pub dues : AllByRecursion IsHeldByDue book.orders
  pub named : book.participants ≡ map (λ (a : Account). a.participant) accounts
  pub tells : Each (TellsOf version Tells accounts book) (records_in version)
  pub no_more : HasNoMoreBeyond version accounts book

-- What is read of trees of this version, sound or not: each row of the tables is that of one record. A number below
-- zero is read as 0, which breaks the same rule of a sound book.
abbrev pub AreReadOf : ℕ → Trees → List Account → Book → Type 0
AreReadOf version trees = AreTheRecords version (AreRowsIn trees)

-- one row alone, which is in the form of a record
abbrev pub IsOneRow : {A : Type 0} → TableRecords A → List Row → Type 0
IsOneRow {A = A} records rows = (it : A) × records.fits it × AreReadAs records rows (it ∷ [])

-- one row alone, which says some version of the tables
abbrev pub IsOneDesk : List Row → Type 0
IsOneDesk = IsOneRow desk_records

-- one row alone, which says this version
abbrev pub IsDeskOf : ℕ → List Row → Type 0
IsDeskOf version rows = (one : IsOneDesk rows) × (one.0.version ≡ version)

-- each row is in the form of a record
abbrev pub InForm : {A : Type 0} → TableRecords A → List Row → Type 0
InForm records = AllByRecursion (IsFormed records)

-- these are the rows of due dates, as their query shows and sorts them; a version without their table has none
abbrev pub ShowsDues : ℕ → Trees → List Row → Type 0
ShowsDues version trees dues = (HasTable version forward_table × ShowsSorted forward_table trees dues)
    ⊎ (¬ HasTable version forward_table × (dues ≡ []))

-- the rows of the two tables, sorted by their numbers, are those of orders
abbrev pub HasOrders : ℕ → Trees → Type 0
HasOrders version trees = (undated_orders dues : List Row) → ShowsSorted order_table trees undated_orders
    → ShowsDues version trees dues → AreOrders undated_orders dues

-- Each row of the tables that the version has is in the form of a record; the first table has one row, which says this
-- version; that of the choice has one row; each due date is of an order, and each held order has one.
pub record AreFormed (version : ℕ) (trees : Trees) : Type 0 where
  pub desk : IsDeskOf version (as_shown desk_table trees)
  pub choice : HasTable version resolution_table → IsOneRow resolution_records (as_shown resolution_table trees)
  pub rows : Each (λ A records. InForm records (as_shown records.table trees)) (records_in version)
  pub orders : HasOrders version trees

-- ---- why no book is given

-- the account stores the balance that a map has under its code
abbrev pub is_stored : BTreeMap (List ℕ) ℤ → Account → Bool
is_stored balances a = unwrap_or (option_map (int_eq a.balance)
    (get (slice_cmp nat_cmp) balances a.participant.code)) false

-- the records keep the rule: one is about the stored balances, which a book has not, and the last is none of records
abbrev pub KeepsStored : List Account → Book → Rule → Type 0
KeepsStored accounts book rule =
    (rule ≢ Calm → Keeps book rule) × (rule ≡ StoredBalances → AreBalances book accounts)

-- of the rules that the records break, this is the first
pub record StoredBreaksFirst (accounts : List Account) (book : Book) (rule : Rule) : Type 0 where
  pub broken : ¬ KeepsStored accounts book rule
  pub before : (other : Rule) → rule_number other < rule_number rule → KeepsStored accounts book other

-- why a book is refused by one of the rules before this one: it breaks it, and none before; or memory was refused
abbrev pub ExplainsBefore : Book → Rule → Fault → Type 0
ExplainsBefore book last OutOfMemory = ⊤
ExplainsBefore book last (Inconsistent rule) = (rule_number rule ≤ rule_number last) × BreaksFirst book rule
ExplainsBefore book last fault = ⊥

-- Why records in their forms give no book: they break a rule, and this one first, or else the store failed or memory
-- was refused.
abbrev pub ExplainsRead : List Account → Book → Fault → Type 0
ExplainsRead accounts book OutOfMemory = ⊤
ExplainsRead accounts book StoreFault = ⊤
ExplainsRead accounts book NotADeskFile = ⊥
ExplainsRead accounts book (Inconsistent rule) = StoredBreaksFirst accounts book rule

-- Why tables with the schema of this version give no book, whatever their rows are: a row is malformed; or none is,
-- and this is the first rule that the records break; or else the store failed or memory was refused.
abbrev pub ExplainsTrees : ℕ → Trees → Fault → Type 0
ExplainsTrees version trees OutOfMemory = ⊤
ExplainsTrees version trees StoreFault = ⊤
ExplainsTrees version trees NotADeskFile = ¬ AreFormed version trees
ExplainsTrees version trees (Inconsistent rule) = (accounts : List Account) × (book : Book)
    × AreReadOf version trees accounts book × StoredBreaksFirst accounts book rule

-- The queries show the records of the book, with stored balances that are the sums from scratch.
abbrev pub IsShown : ℕ → Trees → Book → Type 0
IsShown version trees book = (accounts : List Account) × ShowsBook version trees accounts book
    × AreBalances book accounts
