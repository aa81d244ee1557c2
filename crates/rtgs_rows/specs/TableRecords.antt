-- The records of each table: how a row shows one, and which of them a book has.
use Rattle.std.specs.Prelude.{◌≡◌, ◌⊎◌, Bool, true, false, ℕ, List, [], ◌∷◌, ◌++◌, map, take, drop, None, ⊤}
use Rattle.sqlite.specs.Order.{Row}
use Rattle.sqlite.specs.Table.{Table}
use Rattle.rtgs_book.specs.declared.account.Account.{Account}
use Rattle.rtgs_book.specs.declared.book.Book.{Book}
use Rattle.rtgs_book.specs.declared.posting.Posting.{Posting}
use Rattle.rtgs_book.specs.declared.order.Order.{Order}
use Rattle.rtgs_book.specs.declared.mark.Mark.{Mark}
use Rattle.rtgs_book.specs.Books.{new_book}
use Rattle.rtgs_rows.specs.Dues.{without_due, forwards_of}
use Rattle.rtgs_rows.specs.Fitting.{FitsDate, FitsParticipant, FitsPosting, FitsUndated, FitsMark, FitsForward}
use Rattle.rtgs_rows.specs.declared.forward.Forward.{Forward}
use Rattle.rtgs_rows.specs.declared.desk_row.DeskRow.{DeskRow}
use Rattle.rtgs_rows.specs.declared.resolution_row.ResolutionRow.{ResolutionRow}
use Rattle.rtgs_rows.specs.Rows.{desk_row_of, resolution_row_of, shown_desk, shown_account, shown_posting, shown_order}
use Rattle.rtgs_rows.specs.Rows.{shown_mark, shown_forward, shown_resolution}
use Rattle.rtgs_rows.specs.Tables.{desk_table, participant_table, posting_table, order_table, mark_table}
use Rattle.rtgs_rows.specs.Tables.{forward_table, resolution_table, table_count}

pub record TableRecords (A : Type 0) : Type 1 where
  pub table : Table
  -- the row that the query shows of a record
  pub shown : A → Row
  -- each value of a record is in its form and range
  pub fits : A → Type 0
  -- the places in that row of the numbers that are read as 0 where they are below zero
  pub counted : List Bool
  -- those that a book has in tables of a version, whose accounts are its participants with their stored balances
  pub of_book : ℕ → List Account → Book → List A

abbrev pub desk_records : TableRecords DeskRow
desk_records = record {
  table = desk_table;
  shown = shown_desk;
  fits = λ desk. FitsDate desk.date;
  counted = [];
  of_book = λ version accounts book. desk_row_of version book.day ∷ [];
}

abbrev pub account_records : TableRecords Account
account_records = record {
  table = participant_table;
  shown = shown_account;
  fits = λ account. FitsParticipant account.participant;
  counted = [];
  of_book = λ version accounts book. accounts;
}

abbrev pub posting_records : TableRecords Posting
posting_records = record {
  table = posting_table;
  shown = shown_posting;
  fits = FitsPosting;
  counted = true ∷ [];
  of_book = λ version accounts book. book.postings;
}

-- a row of an order does not show its due date
abbrev pub order_records : TableRecords Order
order_records = record {
  table = order_table;
  shown = shown_order;
  fits = λ order. FitsUndated order × (order.due ≡ None);
  counted = true ∷ false ∷ false ∷ false ∷ false ∷ false ∷ false ∷ true ∷ [];
  of_book = λ version accounts book. map without_due book.orders;
}

abbrev pub mark_records : TableRecords Mark
mark_records = record {
  table = mark_table;
  shown = shown_mark;
  fits = FitsMark;
  counted = true ∷ false ∷ true ∷ [];
  of_book = λ version accounts book. book.marks;
}

abbrev pub forward_records : TableRecords Forward
forward_records = record {
  table = forward_table;
  shown = shown_forward;
  fits = FitsForward;
  counted = true ∷ [];
  of_book = λ version accounts book. forwards_of book.orders;
}

abbrev pub resolution_records : TableRecords ResolutionRow
resolution_records = record {
  table = resolution_table;
  shown = shown_resolution;
  fits = λ resolution. ⊤;
  counted = [];
  of_book = λ version accounts book. resolution_row_of book.day ∷ [];
}

-- those of the tables that have a row for each record of a list
abbrev pub records_of_lists : List ((A : Type 0) × TableRecords A)
records_of_lists = (Account, account_records) ∷ (Posting, posting_records) ∷ (Order, order_records)
    ∷ (Mark, mark_records) ∷ (Forward, forward_records) ∷ []

-- those of all tables, in the order of the tables
abbrev pub records_of_tables : List ((A : Type 0) × TableRecords A)
records_of_tables = (DeskRow, desk_records) ∷ (records_of_lists ++ (ResolutionRow, resolution_records) ∷ [])

-- those of the tables that a version has
abbrev pub records_in : ℕ → List ((A : Type 0) × TableRecords A)
records_in version = take (table_count version) records_of_tables

-- and those of the tables that it lacks
abbrev pub records_beyond : ℕ → List ((A : Type 0) × TableRecords A)
records_beyond version = drop (table_count version) records_of_tables

-- so it is with each of these records
abbrev pub Each : ((A : Type 0) → TableRecords A → Type 0) → List ((A : Type 0) × TableRecords A) → Type 0
Each Fact [] = ⊤
Each Fact (one ∷ more) = Fact one.0 one.1 × Each Fact more

-- those that a new desk has
abbrev pub at_first : {A : Type 0} → ℕ → TableRecords A → List A
at_first version records = records.of_book version [] new_book

-- of the tables that the version lacks a book has the records of a new desk: no due date, and no automatic day
abbrev pub HasNoMoreBeyond : ℕ → List Account → Book → Type 0
HasNoMoreBeyond version accounts book =
    Each (λ A records. records.of_book version accounts book ≡ at_first version records) (records_beyond version)

-- and so with one of these
abbrev pub OneOf : ((A : Type 0) → TableRecords A → Type 0) → List ((A : Type 0) × TableRecords A) → Type 0
OneOf Fact [] = ⊥
OneOf Fact (one ∷ more) = Fact one.0 one.1 ⊎ OneOf Fact more
