-- Rows after which nothing may settle that could not before.
use Rattle.std.specs.Prelude.{◌≡◌, ◌⊎◌, ⊤, ℕ, ◌≤◌, ℤ, ◌+ℤ◌, ◌-ℤ◌, ◌≤ℤ◌, ◌<ℤ◌, false, List, [], ◌∷◌, ◌++◌, take, Some}
use Rattle.std.specs.List.{find}
use Rattle.rtgs_book.specs.declared.book.Book.{Book}
use Rattle.rtgs_book.specs.declared.change.RowChange.{RowChange}
use Rattle.rtgs_book.specs.declared.change.RowChange.TheVariants.{AddPosting, AddOrder, AddMark, SetCredit, SetBalance}
use Rattle.rtgs_book.specs.declared.order.Order.{Order}
use Rattle.rtgs_book.specs.Balance.{balance, floor}
use Rattle.rtgs_book.specs.Books.{is_empty, is_queued}
use Rattle.rtgs_book.specs.Commands.{has_number}
use Rattle.rtgs_book.specs.Lookup.{credit_of}
use Rattle.rtgs_book.specs.Queue.{queue, queued_numbers}
use Rattle.rtgs_laws.specs.Quiet.{queued_to, value_of}

-- with this balance the account would be below its floor once it had paid so much, even if all that is queued to it
-- came in
abbrev pub IsShort : Book → List ℕ → ℤ → ℤ → Type 0
IsShort book code money cents = ((money +ℤ queued_to book.orders code) -ℤ cents) <ℤ floor book code

-- the row leaves the queues as they are, and gives nobody who has one what it could pay the first of it with
abbrev pub GivesNothing : Book → RowChange → Type 0
GivesNothing book (AddPosting posting) = ⊤
GivesNothing book (AddOrder order) = is_queued order ≡ false
GivesNothing book (AddMark mark) = ⊤
GivesNothing book (SetCredit code credit) = is_empty (queue book code) ≡ false → credit ≤ credit_of book code
GivesNothing book (SetBalance code money) = is_empty (queue book code) ≡ false
    → (money ≤ℤ balance book code) ⊎ IsShort book code money (value_of (take 1 (queue book code)))
GivesNothing book row = ⊥

-- the order with this number, which waits, is the last of its queue
pub record IsLast (waiting : List Order) (number : ℕ) : Type 0 where
  pub order : Order
  pub found : find (has_number number) waiting ≡ Some order
  pub last : (first : List ℕ) × (queued_numbers waiting order.sender ≡ first ++ number ∷ [])
