-- Which records a statement and a report take, in the order of the book: by rising number.
use Rattle.std.specs.Prelude.{ℕ, Bool, ◌&&◌, ◌||◌, ◌==◌, List, filter}
use Rattle.std.specs.Str.{bytes_eq}
use Rattle.rtgs_book.specs.declared.posting.Posting.{Posting}
use Rattle.rtgs_book.specs.declared.order.Order.{Order}
use Rattle.rtgs_book.specs.declared.mark.Mark.{Mark}
use Rattle.rtgs_book.specs.Books.{is_settled}
use Rattle.rtgs_book.specs.Commands.{is_date}

abbrev pub is_posted_on : ℕ → Posting → Bool
is_posted_on date posting = is_date posting.date date

abbrev pub is_ordered_on : ℕ → Order → Bool
is_ordered_on date order = order.date == date

abbrev pub is_marked_on : ℕ → Mark → Bool
is_marked_on date mark = mark.date == date

-- a posting of that date to the participant
abbrev pub is_posting_of : List ℕ → ℕ → Posting → Bool
is_posting_of code date posting = is_posted_on date posting && bytes_eq posting.code code

-- an order of that date that the participant sent, or a settled one that was sent to it
abbrev pub is_order_of : List ℕ → ℕ → Order → Bool
is_order_of code date order = is_ordered_on date order
    && (bytes_eq order.sender code || (is_settled order && bytes_eq order.receiver code))

-- what a statement takes
abbrev pub postings_on_statement : List ℕ → ℕ → List Posting → List Posting
postings_on_statement code date postings = filter (is_posting_of code date) postings

abbrev pub orders_on_statement : List ℕ → ℕ → List Order → List Order
orders_on_statement code date orders = filter (is_order_of code date) orders

-- what a report takes
abbrev pub postings_on : ℕ → List Posting → List Posting
postings_on date postings = filter (is_posted_on date) postings

abbrev pub orders_on : ℕ → List Order → List Order
orders_on date orders = filter (is_ordered_on date) orders

abbrev pub marks_on : ℕ → List Mark → List Mark
marks_on date marks = filter (is_marked_on date) marks
