-- The numbers of a sound book are above zero.
use Rattle.std.proofs.Common.{◌≡◌, ℕ, zero, suc, ◌+◌, ◌<◌, ◌==◌, Bool, true, false, ◌&&◌, ◌||◌, List, [], ◌∷◌, map}
use Rattle.std.proofs.Common.{length, refl, sym, subst, true≢false, arith}
use Rattle.std.proofs.lemmas.Bool.Decides.{nat_tests}
use Rattle.std.specs.List.{AllByRecursion, list_any, range_with_len}
use Rattle.sqlite_keyed.proofs.ListLemmas.{all_unmap}
use Rattle.rtgs_book.specs.declared.book.Book.{Book}
use Rattle.rtgs_book.specs.declared.posting.Posting.{Posting}
use Rattle.rtgs_book.specs.declared.order.Order.{Order}
use Rattle.rtgs_book.specs.declared.order_state.OrderState.{OrderState}
use Rattle.rtgs_book.specs.declared.order_state.OrderState.TheVariants.{Queued, Held, Settled, Withdrawn, Rejected}
use Rattle.rtgs_book.specs.declared.mark.Mark.{Mark}
use Rattle.rtgs_book.specs.Soundness.{AreNumbered, HasMark, CountsItsOrders, IsSound}
use Rattle.rtgs_sql_columns.specs.Numbers.{IsNumberedState, IsNumberedOrder, IsNumberedMark, IsNumberedBook}

from : (a n : ℕ) → 0 < a → AllByRecursion (λ k. 0 < k) (range_with_len a n)
from a zero low = tt
from a (suc n) low = (low, from (a + 1) n (omega arith))

numbered : {A : Type 0} (number : A → ℕ) (xs : List A) → AreNumbered (map number xs)
    → AllByRecursion (λ x. 0 < number x) xs
numbered number xs is = all_unmap (λ k. 0 < k) number xs (subst (AllByRecursion (λ k. 0 < k)) (sym is.0)
    (from 1 (length (map number xs)) (omega arith)))

-- a mark that is there has a number above zero
known : (ms : List Mark) (mark date : ℕ) → AllByRecursion (λ (m : Mark). 0 < m.number) ms
    → list_any (λ (m : Mark). (m.number == mark) && (m.date == date)) ms ≡ true → 0 < mark
known [] mark date low t = absurd (true≢false (sym t))
known (m ∷ ms) mark date low t = at (m.number == mark) refl t (known ms mark date low.1)
  where
    at : (same : Bool) → (m.number == mark) ≡ same → ((same && (m.date == date)) || list_any
        (λ (k : Mark). (k.number == mark) && (k.date == date)) ms) ≡ true
        → (list_any (λ (k : Mark). (k.number == mark) && (k.date == date)) ms ≡ true → 0 < mark) → 0 < mark
    at true e u rest = let above = low.0 in grind (arith, nat_tests)
    at false e u rest = rest u

settled : (ms : List Mark) (date : ℕ) (state : OrderState) → AllByRecursion (λ (m : Mark). 0 < m.number) ms
    → HasMark ms date state → IsNumberedState state
settled ms date Queued low has = tt
settled ms date Held low has = tt
settled ms date (Settled mark) low has = known ms mark date low has
settled ms date Withdrawn low has = tt
settled ms date Rejected low has = tt

orders : (ms : List Mark) (os : List Order) → AllByRecursion (λ (m : Mark). 0 < m.number) ms
    → AllByRecursion (λ (o : Order). 0 < o.number) os → AllByRecursion (λ (o : Order). HasMark ms o.date o.state) os
    → AllByRecursion IsNumberedOrder os
orders ms [] marks low has = tt
orders ms (o ∷ os) marks low has = ((low.0, settled ms o.date o.state marks has.0), orders ms os marks low.1 has.1)

marks_of : (book : Book) (ms : List Mark) → AllByRecursion (λ (m : Mark). 0 < m.number) ms
    → AllByRecursion (CountsItsOrders book) ms → AllByRecursion IsNumberedMark ms
marks_of book [] low counts = tt
marks_of book (m ∷ ms) low counts = (
  (low.0, let some = counts.0.some in omega (arith, some)),
  marks_of book ms low.1
      counts.1,
)

pub above_zero : (book : Book) → IsSound book → IsNumberedBook book
above_zero book sound =
    let marks = numbered (λ (m : Mark). m.number) book.marks sound.marks_numbered in
    record {
      postings = numbered (λ (p : Posting). p.number) book.postings sound.postings_numbered;
      orders = orders book.marks book.orders marks (numbered (λ (o : Order). o.number) book.orders
          sound.orders_numbered) sound.marks.0;
      marks = marks_of book book.marks marks sound.marks.1;
    }
