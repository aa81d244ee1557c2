-- Settling a batch leaves a book as it is, or with the batch under the next mark.
use Rattle.std.proofs.Common.{Bool, List, [], ◌∷◌, ◌++◌, cond, map, filter, length, ◌≤◌, arith}
use Rattle.rtgs_book.specs.declared.book.Book.{Book}
use Rattle.rtgs_book.specs.declared.order.Order.{Order}
use Rattle.rtgs_book.specs.declared.order_state.OrderState.TheVariants.{Settled}
use Rattle.rtgs_book.specs.Books.{is_empty}
use Rattle.rtgs_book.specs.Settle.{restated, settle, mark_of, next_mark}

-- the book with the batch under the next mark
abbrev pub with_batch : Book → (Order → Bool) → Book
with_batch book is_in = record book {
  orders = map (restated is_in (Settled (next_mark book))) book.orders;
  marks = book.marks ++ mark_of book (filter is_in book.orders) ∷ [];
}

-- what holds with a batch that is not empty holds of the book once the batch is settled
pub settled_batch : (P : Book → Type 0) (book : Book) (is_in : Order → Bool) → 1 ≤ length (filter is_in book.orders)
    → P (with_batch book is_in) → P (settle book is_in)
unfolding settle
settled_batch P book is_in some = by (filter is_in book.orders) some
  where
    by : (batch : List Order) → 1 ≤ length batch → P (record book {
      orders = map (restated is_in (Settled (next_mark book))) book.orders;
      marks = book.marks ++ mark_of book batch ∷ [];
    }) → P (cond (is_empty batch) book (record book {
      orders = map (restated is_in (Settled (next_mark book))) book.orders;
      marks = book.marks ++ mark_of book batch ∷ [];
    }))
    by [] some given = absurd (omega arith)
    by (o ∷ os) some given = given

-- what holds of the book as it is, and with a batch that is not empty, holds of the book once the batch is settled
pub settled_either : (P : Book → Type 0) (book : Book) (is_in : Order → Bool) → P book
    → (1 ≤ length (filter is_in book.orders) → P (with_batch book is_in)) → P (settle book is_in)
unfolding settle
settled_either P book is_in same batch = by (filter is_in book.orders) batch
  where
    by : (batch : List Order) → (1 ≤ length batch → P (record book {
      orders = map (restated is_in (Settled (next_mark book))) book.orders;
      marks = book.marks ++ mark_of book batch ∷ [];
    })) → P (cond (is_empty batch) book (record book {
      orders = map (restated is_in (Settled (next_mark book))) book.orders;
      marks = book.marks ++ mark_of book batch ∷ [];
    }))
    by [] given = same
    by (o ∷ os) given = given (omega arith)
