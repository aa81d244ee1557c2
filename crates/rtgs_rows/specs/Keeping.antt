-- The book that the tables hold.
use Rattle.std.specs.Prelude.{◌≡◌, List, [], map, IsPermutation}
use Rattle.std.specs.List.{AllByRecursion}
use Rattle.sqlite_trees.specs.declared.store.Store.{Ghosts}
use Rattle.sqlite.specs.Tree.{Trees}
use Rattle.sqlite.specs.Held.{Held, state}
use Rattle.rtgs_book.specs.declared.account.Account.{Account}
use Rattle.rtgs_book.specs.declared.book.Book.{Book}
use Rattle.rtgs_book.specs.declared.posting.Posting.{Posting}
use Rattle.rtgs_book.specs.Balance.{balance}
use Rattle.rtgs_book.specs.Books.{new_book}
use Rattle.rtgs_book.specs.IntSum.{int_sum_by}
use Rattle.rtgs_book.specs.Soundness.{IsSound}
use Rattle.rtgs_rows.specs.Content.{Holding, Content, Holds, Rests, Rise}
use Rattle.rtgs_rows.specs.Dues.{forwards_of}
use Rattle.rtgs_rows.specs.Fitting.{HasFormedValues}

-- the day and the lists of records are those of the book, whoever the participants are
pub record SameLists (book : Book) (content : Content) : Type 0 where
  pub day : content.day ≡ book.day
  pub postings : content.postings ≡ book.postings
  pub orders : content.orders ≡ book.orders
  pub marks : content.marks ≡ book.marks
  pub forwards : content.forwards ≡ forwards_of book.orders

-- The records are those of the book. A book has the participants in the order of their codes, and the tables have them
-- in the order in which they came.
pub record AreOf (book : Book) (content : Content) : Type 0 where
  pub participants : IsPermutation (map (λ (h : Holding). h.participant) content.holdings) book.participants
  pub lists : SameLists book content

-- the records of the book, whose participants are stored so
abbrev pub content_of : Book → List Holding → Content
content_of book holdings = record {
  day = book.day;
  holdings = holdings;
  postings = book.postings;
  orders = book.orders;
  marks = book.marks;
  forwards = forwards_of book.orders;
}

-- those of a new desk
abbrev pub first_content : Content
first_content = content_of new_book []

-- The records are those of the sound book, with each stored balance the sum from scratch.
pub record IsBookOf (book : Book) (content : Content) : Type 0 where
  pub records : AreOf book content
  pub balances : AllByRecursion (λ (h : Holding). h.balance ≡ balance book h.participant.code) content.holdings
  pub ids : Rise (λ (h : Holding). h.id) content.holdings
  pub sound : IsSound book
  pub fits : HasFormedValues book

-- each stored balance of an account is the sum from scratch
abbrev pub AreBalances : Book → List Account → Type 0
AreBalances book accounts = AllByRecursion (λ (a : Account). a.balance ≡ balance book a.participant.code) accounts

-- the stored balances add up to the postings' cents
abbrev pub AddsUp : Content → Type 0
AddsUp content = int_sum_by (λ (h : Holding). h.balance) content.holdings
    ≡ int_sum_by (λ (p : Posting). p.cents) content.postings

-- the tables of the connection hold the book
abbrev pub HoldsBook : {S : Type 0} → Ghosts S → Held S → Book → Type 0
HoldsBook g h book = (content : Content) × Rests content (state g h) × IsBookOf book content

-- a stop may leave tables that hold the book
abbrev pub MayLeave : {S : Type 0} → Ghosts S → Held S → Book → Type 0
MayLeave g h book = (trees : Trees) × (state g h).may_leave trees
    × ((content : Content) × Holds content trees × IsBookOf book content)

-- whatever tables a stop leaves hold a book
abbrev pub IsWhole : {S : Type 0} → Ghosts S → Held S → Type 0
IsWhole g h = (trees : Trees) → (state g h).may_leave trees
    → (book : Book) × ((content : Content) × Holds content trees × IsBookOf book content)
