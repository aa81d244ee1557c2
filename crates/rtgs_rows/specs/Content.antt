-- What the tables hold, record by record.
use Rattle.std.specs.Prelude.{◌≡◌, ◌≢◌, ℕ, ◌==◌, ℤ, pos, true, List, [], ◌∷◌, ◌++◌, map, take, if◌then◌else◌}
use Rattle.std.specs.Prelude.{IsTrue}
use Rattle.std.specs.Ordering.{int_cmp}
use Rattle.std.specs.Str.{bytes_eq}
use Rattle.std.specs.declared.cmp.Ordering.TheVariants.{Less}
use Rattle.sqlite.specs.Order.{Row}
use Rattle.sqlite.specs.Table.{Table}
use Rattle.sqlite.specs.Tree.{Trees, IsAscending}
use Rattle.sqlite.specs.Edit.{next_rowid}
use Rattle.sqlite.specs.State.{State}
use Rattle.sqlite.specs.Effect.{Database}
use Rattle.sqlite_catalog.specs.Listing.{IsSound}
use Rattle.rtgs_book.specs.declared.account.Account.{Account}
use Rattle.rtgs_book.specs.declared.day.Day.{Day}
use Rattle.rtgs_book.specs.declared.participant.Participant.{Participant}
use Rattle.rtgs_book.specs.declared.posting.Posting.{Posting}
use Rattle.rtgs_book.specs.declared.order.Order.{Order}
use Rattle.rtgs_book.specs.declared.mark.Mark.{Mark}
use Rattle.rtgs_book.specs.declared.change.RowChange.{RowChange}
use Rattle.rtgs_book.specs.declared.change.RowChange.TheVariants.{AddParticipant, AddPosting, AddOrder, AddMark}
use Rattle.rtgs_book.specs.declared.change.RowChange.TheVariants.{SetCredit}
use Rattle.rtgs_book.specs.declared.change.RowChange.TheVariants.{SetBalance, SetState, EnterQueue, SetDay}
use Rattle.rtgs_book.specs.Settle.{altered, restated}
use Rattle.rtgs_book.specs.Commands.{has_number, is_held_with, entered}
use Rattle.rtgs_rows.specs.Dues.{forward_for}
use Rattle.rtgs_rows.specs.Tables.{no_schema, desk_schema, schema_in, known_tables, tables_in, table_count}
use Rattle.rtgs_rows.specs.Tables.{IsVersion}
use Rattle.rtgs_rows.specs.declared.numbers.TheConstants.{VERSION}
use Rattle.rtgs_rows.specs.Rows.{day_row, choice_row, participant_row, posting_row, order_row, mark_row, forward_row}
use Rattle.rtgs_rows.specs.declared.forward.Forward.{Forward}

-- the rows of each table of a desk, in the order of the tables
abbrev pub Tables : Type 0
Tables = List (List Row)

-- those that a database of a version has
abbrev pub tables_of_in : ℕ → Trees → Tables
tables_of_in version trees = map (λ (table : Table). trees table.tree) (tables_in version)

-- and of the version in which new ones are made
abbrev pub tables_of : Trees → Tables
tables_of = tables_of_in VERSION

abbrev rows_at : ℕ → List Table → Tables → List Row
rows_at tree (table ∷ tables) (rows ∷ more) = if table.tree == tree then rows else rows_at tree tables more
rows_at tree tables all = []

-- those of this table
abbrev pub rows_in : Table → Tables → List Row
rows_in table = rows_at table.tree known_tables

-- a participant with its stored balance, under its row number
pub record Holding : Type 0 where
  pub id : ℤ
  pub participant : Participant
  pub balance : ℤ

abbrev pub holding_row : Holding → Row
holding_row h = participant_row h.id h.participant h.balance

abbrev pub stored_account : Holding → Account
stored_account h = record { participant = h.participant; balance = h.balance }

-- The records of the tables. The participants stand in the order in which they came. The rows of the orders do not
-- show their due dates, which are records of their own. The day has a row in each of two tables.
pub record Content : Type 0 where
  pub day : Day
  pub holdings : List Holding
  pub postings : List Posting
  pub orders : List Order
  pub marks : List Mark
  pub forwards : List Forward

-- those that these records have in all tables, with this version in that of the day
abbrev pub all_tables : ℕ → Content → Tables
all_tables version c = (day_row version c.day ∷ []) ∷ map holding_row c.holdings ∷ map posting_row c.postings
    ∷ map order_row c.orders ∷ map mark_row c.marks ∷ map forward_row c.forwards ∷ (choice_row c.day ∷ []) ∷ []

-- and in the tables of this version
abbrev pub tables_for_in : ℕ → Content → Tables
tables_for_in version c = take (table_count version) (all_tables version c)

-- and in those of the version in which new ones are made
abbrev pub tables_for : Content → Tables
tables_for = tables_for_in VERSION

-- the trees are a database that has no tables
abbrev pub HasNoTables : Trees → Type 0
HasNoTables = IsSound no_schema

-- the trees are a database of the tables of this version, with these records
pub record HoldsIn (version : ℕ) (content : Content) (trees : Trees) : Type 0 where
  pub sound : IsSound (schema_in version) trees
  pub rows : tables_of_in version trees ≡ tables_for_in version content

-- so it is of the version in which new tables are made
abbrev pub Holds : Content → Trees → Type 0
Holds = HoldsIn VERSION

-- inside a transaction over the last commit, with these records
pub record IsUnderWay (was : Database) (content : Content) (s : State) : Type 0 where
  pub is_open : IsTrue s.is_open
  pub inside : s.in_transaction ≡ true
  pub schema : s.now.schema ≡ desk_schema
  pub holds : Holds content s.now.trees
  pub committed : s.committed ≡ was

-- outside a transaction, with these records committed, in tables of this version, which is known
pub record RestsIn (version : ℕ) (content : Content) (s : State) : Type 0 where
  pub known : IsVersion version
  pub is_open : IsTrue s.is_open
  pub schema : s.committed.schema ≡ schema_in version
  pub holds : HoldsIn version content s.committed.trees
  pub clean : s.now ≡ s.committed

-- so it is of the version in which new tables are made
abbrev pub Rests : Content → State → Type 0
Rests = RestsIn VERSION

-- ---- changes

-- a new participant, which has no money, under the next row number
abbrev pub newcomer : Content → Participant → Holding
newcomer c p = record { id = next_rowid (map holding_row c.holdings); participant = p; balance = pos 0 }

-- with this limit of credit, if it has the code
abbrev pub with_credit_in : List ℕ → ℕ → Holding → Holding
with_credit_in code credit h =
    if bytes_eq h.participant.code code then record h { participant = record h.participant { credit = credit } } else h

-- with this balance, if it has the code
abbrev pub with_balance_in : List ℕ → ℤ → Holding → Holding
with_balance_in code balance h = if bytes_eq h.participant.code code then record h { balance = balance } else h

-- the records after one row is added or set
abbrev pub with_change : Content → RowChange → Content
with_change c (AddParticipant p) = record c { holdings = c.holdings ++ newcomer c p ∷ [] }
with_change c (AddPosting p) = record c { postings = c.postings ++ p ∷ [] }
with_change c (AddOrder o) = record c {
  orders = c.orders ++ o ∷ [];
  forwards = c.forwards ++ forward_for o.number o.due;
}
with_change c (AddMark m) = record c { marks = c.marks ++ m ∷ [] }
with_change c (SetCredit code credit) = record c { holdings = map (with_credit_in code credit) c.holdings }
with_change c (SetBalance code balance) = record c { holdings = map (with_balance_in code balance) c.holdings }
with_change c (SetState number state) = record c { orders = map (restated (has_number number) state) c.orders }
with_change c (EnterQueue number date) = record c {
  orders = map (altered (is_held_with number) (entered date)) c.orders;
}
with_change c (SetDay day) = record c { day = day }

-- and after one after another
abbrev pub with_changes : Content → List RowChange → Content
with_changes c [] = c
with_changes c (row ∷ rows) = with_changes (with_change c row) rows

-- each has a greater number than those before it
abbrev pub Rise : {A : Type 0} → (A → ℤ) → List A → Type 0
Rise number = IsAscending (λ a b. int_cmp (number a) (number b) ≡ Less)

-- no key comes twice, and the lists stand in the order of their row numbers
pub record IsInOrder (c : Content) : Type 0 where
  pub ids : Rise (λ (h : Holding). h.id) c.holdings
  pub codes : IsAscending (λ a b. a.participant.code ≢ b.participant.code) c.holdings
  pub postings : Rise (λ (p : Posting). pos p.number) c.postings
  pub orders : Rise (λ (o : Order). pos o.number) c.orders
  pub marks : Rise (λ (m : Mark). pos m.number) c.marks
  pub forwards : Rise (λ (f : Forward). pos f.number) c.forwards

-- so before each change and after the last
abbrev pub AreInOrder : Content → List RowChange → Type 0
AreInOrder c [] = IsInOrder c
AreInOrder c (row ∷ rows) = IsInOrder c × AreInOrder (with_change c row) rows
