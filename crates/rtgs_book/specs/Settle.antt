-- Settling a batch of orders under one mark.
use Rattle.std.specs.Prelude.{ℕ, ◌+◌, pos, Bool, if◌then◌else◌, List, [], ◌∷◌, ◌++◌, length, map, filter, sum_by}
use Rattle.std.specs.Prelude.{unwrap_or}
use Rattle.rtgs_book.specs.Books.{Book, Order, OrderState, Mark, Settled, is_empty}

-- the day's date, and 0 before the first day
abbrev pub today : Book → ℕ
today book = unwrap_or book.day.date 0

abbrev pub next_mark : Book → ℕ
next_mark book = length book.marks + 1

-- the next mark, for a batch
unfoldable pub mark_of : Book → List Order → Mark
mark_of book batch =
    record {
      number = next_mark book;
      date = today book;
      count = length batch;
      value = pos
          (sum_by (λ (o : Order). o.amount) batch);
    }

-- the order changed so, where it passes the test
abbrev pub altered : (Order → Bool) → (Order → Order) → Order → Order
altered is_in change order = if is_in order then change order else order

-- the order in this state
abbrev pub in_state : OrderState → Order → Order
in_state state order = record order { state = state }

-- the order in this state, where it passes the test
abbrev pub restated : (Order → Bool) → OrderState → Order → Order
restated is_in state = altered is_in (in_state state)

-- the orders that pass the test are settled under the next mark; where there is none, nothing changes
unfoldable pub settle : Book → (Order → Bool) → Book
settle book is_in =
    let batch = filter is_in book.orders in
    if is_empty batch then book
    else record book {
      orders = map (restated is_in (Settled (next_mark book))) book.orders;
      marks = book.marks
          ++ mark_of book batch ∷ [];
    }
