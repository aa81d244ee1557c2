-- What a participant may see of a book.
use Rattle.std.specs.Prelude.{◌≡◌, ◌≢◌, ◌&&◌, ◌||◌, ℕ, Bool, List, filter, Some}
use Rattle.std.specs.Str.{bytes_eq}
use Rattle.rtgs_book.specs.Books.{is_settled}
use Rattle.rtgs_book.specs.Lookup.{participant_of}
use Rattle.rtgs_book.specs.declared.book.Book.{Book}
use Rattle.rtgs_book.specs.declared.order.Order.{Order}
use Rattle.rtgs_book.specs.declared.posting.Posting.{Posting}
use Rattle.rtgs_http_requests.specs.Access.{CarriesKey}
use Rattle.rtgs_ledger.specs.Keys.{code_under}

abbrev pub is_posted_to : List ℕ → Posting → Bool
is_posted_to code posting = bytes_eq posting.code code

-- the participant sent the order, or it settled and was sent to it
abbrev pub concerns : List ℕ → Order → Bool
concerns code order = bytes_eq order.sender code || (is_settled order && bytes_eq order.receiver code)

-- the books agree in the day and in a participant's own: its record, its postings, the orders that it sent and the
-- settled orders to it
pub record AgreeFor (code : List ℕ) (one other : Book) : Type 0 where
  pub day : one.day ≡ other.day
  pub participant : participant_of one code ≡ participant_of other code
  pub postings : filter (is_posted_to code) one.postings ≡ filter (is_posted_to code) other.postings
  pub orders : filter (concerns code) one.orders ≡ filter (concerns code) other.orders

-- the input carries the key that a participant has in the book, and that is not the operator's
pub record IsSentBy (operator : List ℕ) (book : Book) (code input : List ℕ) : Type 0 where
  pub digest : List ℕ
  pub key : CarriesKey input digest
  pub other : digest ≢ operator
  pub participant : code_under book digest ≡ Some code
