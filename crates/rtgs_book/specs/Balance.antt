-- Balances, from the records alone.
use Rattle.std.specs.Prelude.{ℕ, ℤ, pos, neg_ℤ, ◌+ℤ◌, ◌-ℤ◌, if◌then◌else◌, List, filter}
use Rattle.std.specs.Str.{bytes_eq}
use Rattle.rtgs_book.specs.Books.{Book, Phase, Posting, Order, is_closed, is_settled}
use Rattle.rtgs_book.specs.Lookup.{credit_of, codes_of}
use Rattle.rtgs_book.specs.IntSum.{int_sum_by}

abbrev pub postings_of : Book → List ℕ → List Posting
postings_of book code = filter (λ posting. bytes_eq posting.code code) book.postings

-- what an account gains where this order is settled: its amount if it is the receiver's, and minus its amount if it is
-- the sender's
unfoldable pub gain : List ℕ → Order → ℤ
gain code order =
    (if bytes_eq order.receiver code then pos order.amount else pos 0)
    -ℤ (if bytes_eq order.sender code then pos order.amount else pos 0)

-- the postings to the account, and what it gained by the settled orders
unfoldable pub balance : Book → List ℕ → ℤ
balance book code =
    int_sum_by (λ (posting : Posting). posting.cents) (postings_of book code)
    +ℤ int_sum_by (gain code) (filter is_settled book.orders)

-- the least balance under a credit limit: 0 while the desk is closed, and else minus the limit
abbrev pub floor_at : Phase → ℕ → ℤ
floor_at phase credit = if is_closed phase then pos 0 else neg_ℤ (pos credit)

-- the least balance that a participant may have
unfoldable pub floor : Book → List ℕ → ℤ
floor book code = floor_at book.day.phase (credit_of book code)

-- what the desk has posted to all accounts together
unfoldable pub issued : Book → ℤ
issued book = int_sum_by (λ (posting : Posting). posting.cents) book.postings

-- all balances together
unfoldable pub total : Book → ℤ
total book = int_sum_by (balance book) (codes_of book)
