-- What an account held at the end of a date, and what the days since then moved.
use Rattle.std.specs.Prelude.{ℕ, ℤ, ◌+ℤ◌, Bool, not, nat_lt, List, filter}
use Rattle.rtgs_book.specs.declared.book.Book.{Book}
use Rattle.rtgs_book.specs.declared.posting.Posting.{Posting}
use Rattle.rtgs_book.specs.declared.order.Order.{Order}
use Rattle.rtgs_book.specs.cores.Nexts.{date_of_posting}
use Rattle.rtgs_book.specs.Balance.{gain}
use Rattle.rtgs_book.specs.Books.{is_settled}
use Rattle.rtgs_book.specs.IntSum.{int_sum_by}
use Rattle.rtgs_statements.specs.Sums.{posted}

-- Later than the date. A posting that was made before the first day has no date, and counts as earlier than all.
abbrev pub is_posted_after : ℕ → Posting → Bool
is_posted_after date posting = nat_lt date (date_of_posting posting)

abbrev pub is_ordered_after : ℕ → Order → Bool
is_ordered_after date order = nat_lt date order.date

-- what these records leave to the account: its postings, and what it gained by the orders that have settled
abbrev pub moved : List ℕ → List Posting → List Order → ℤ
moved code postings orders = posted code postings +ℤ int_sum_by (gain code) (filter is_settled orders)

-- its balance at the end of the date: what all records up to that date leave to it
unfoldable pub closing : Book → List ℕ → ℕ → ℤ
closing book code date = moved code
    (filter (λ posting. not (is_posted_after date posting)) book.postings)
    (filter (λ order. not (is_ordered_after date order)) book.orders)

-- what the days since then moved
unfoldable pub moved_since : Book → List ℕ → ℕ → ℤ
moved_since book code date = moved code (filter (is_posted_after date) book.postings)
    (filter (is_ordered_after date) book.orders)
