-- Changes of a book after which nothing may settle that could not before.
use Rattle.std.specs.Prelude.{◌≡◌, ◌⊎◌, ℕ, ℤ, true, false, pos, ◌+ℤ◌, ◌-ℤ◌, ◌≤ℤ◌, ◌<ℤ◌, ◌&&◌, List, [], ◌∷◌, ◌++◌}
use Rattle.std.specs.Prelude.{if◌then◌else◌, take}
use Rattle.std.specs.List.{AllByRecursion}
use Rattle.std.specs.Str.{bytes_eq}
use Rattle.rtgs_book.specs.Balance.{balance, floor}
use Rattle.rtgs_book.specs.declared.book.Book.{Book}
use Rattle.rtgs_book.specs.declared.order.Order.{Order}
use Rattle.rtgs_book.specs.Books.{is_empty, is_queued}
use Rattle.rtgs_book.specs.IntSum.{int_sum_by}
use Rattle.rtgs_book.specs.Lookup.{codes_of, is_participant}
use Rattle.rtgs_book.specs.Queue.{queue}

abbrev pub value_of : List Order → ℤ
value_of orders = int_sum_by (λ (o : Order). pos o.amount) orders

-- what the account would get by the order, where that is queued
abbrev pub brings : List ℕ → Order → ℤ
brings code order = if is_queued order && bytes_eq order.receiver code then pos order.amount else pos 0

-- what it would get by all of these
abbrev pub queued_to : List Order → List ℕ → ℤ
queued_to orders code = int_sum_by (brings code) orders

-- whoever paid these orders would be below its floor, even if all that is queued to it came in
abbrev pub AreOutOfReach : Book → List ℕ → List Order → Type 0
AreOutOfReach book code orders =
    ((balance book code +ℤ queued_to book.orders code) -ℤ value_of orders) <ℤ floor book code

-- One order more is queued, behind those of its sender, who could not pay its whole queue.
pub record IsBehindAll (old new : Book) (sender : List ℕ) : Type 0 where
  pub newest : (order : Order) × (queue new sender ≡ queue old sender ++ order ∷ [])
  pub known : is_participant new sender ≡ true
  pub unpaid : AreOutOfReach new sender (queue new sender)

-- a queue is a beginning of what it was, or has an order more that stays out of reach
abbrev pub KeepsQueue : Book → Book → List ℕ → Type 0
KeepsQueue old new code = ((rest : List Order) × (queue old code ≡ queue new code ++ rest)) ⊎ IsBehindAll old new code

-- the account has no more above its floor than before, or too little for the first order of its queue
abbrev pub GainsNothing : Book → Book → List ℕ → Type 0
GainsNothing old new code = ((balance new code +ℤ floor old code) ≤ℤ (balance old code +ℤ floor new code))
    ⊎ AreOutOfReach new code (take 1 (queue new code))

-- No queue begins otherwise than before, and nobody who has one gains what it could pay with. Who has none may gain.
pub record FreesNothing (old new : Book) : Type 0 where
  pub day_stays : new.day ≡ old.day
  pub accounts_stay : codes_of new ≡ codes_of old
  pub queues : (code : List ℕ) → KeepsQueue old new code
  pub gains : AllByRecursion (λ code. is_empty (queue new code) ≡ false → GainsNothing old new code) (codes_of new)
