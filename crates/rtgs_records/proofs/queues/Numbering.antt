-- Orders that are numbered one after another.
use Rattle.std.proofs.Common.{◌≡◌, ℕ, ◌+◌, ◌<◌, ◌≤◌, List, [], ◌∷◌, map, length, ap, ◌∙◌, arith}
use Rattle.std.proofs.lemmas.List.{length-map}
use Rattle.std.specs.List.{AllByRecursion, range_with_len}
use Rattle.rtgs_book.specs.declared.book.Book.{Book}
use Rattle.rtgs_book.specs.declared.order.Order.{Order}
use Rattle.rtgs_book.specs.Soundness.{OrdersAreNumbered}
use Rattle.rtgs_records.specs.queues.Orders.{AreRising}

numbers_from : (k : ℕ) (os : List Order) → map (λ (o : Order). o.number) os ≡ range_with_len k (length os)
    → AllByRecursion (λ (o : Order). k ≤ o.number) os
numbers_from k [] e = tt
numbers_from k (o ∷ os) e =
    let first : o.number ≡ k = cc in
    let rest : map (λ (o : Order). o.number) os ≡ range_with_len (k + 1) (length os) = cc in
    (omega arith, weaken os (numbers_from (k + 1) os rest))
  where
    weaken : (xs : List Order) → AllByRecursion (λ (o : Order). k + 1 ≤ o.number) xs
        → AllByRecursion (λ (o : Order). k ≤ o.number) xs
    weaken [] h = tt
    weaken (x ∷ xs) h = (let l = h.0 in omega arith, weaken xs h.1)

pub rising_from : (k : ℕ) (os : List Order) → map (λ (o : Order). o.number) os ≡ range_with_len k (length os)
    → AreRising os
rising_from k [] e = tt
rising_from k (o ∷ os) e =
    let first : o.number ≡ k = cc in
    let rest : map (λ (o : Order). o.number) os ≡ range_with_len (k + 1) (length os) = cc in
    (above os (numbers_from (k + 1) os rest) first, rising_from (k + 1) os rest)
  where
    above : (xs : List Order) → AllByRecursion (λ (x : Order). k + 1 ≤ x.number) xs → o.number ≡ k
        → AllByRecursion (λ (x : Order). o.number < x.number) xs
    above [] h e = tt
    above (x ∷ xs) h e = (let l = h.0 in omega arith, above xs h.1 e)

pub below_from : (k next : ℕ) (os : List Order) → map (λ (o : Order). o.number) os ≡ range_with_len k (length os)
    → k + length os ≤ next → AllByRecursion (λ (o : Order). o.number < next) os
below_from k next [] e le = tt
below_from k next (o ∷ os) e le =
    let first : o.number ≡ k = cc in
    let rest : map (λ (o : Order). o.number) os ≡ range_with_len (k + 1) (length os) = cc in
    (omega arith, below_from (k + 1) next os rest (omega arith))

pub numbered_from : (book : Book) → OrdersAreNumbered book
    → map (λ (o : Order). o.number) book.orders ≡ range_with_len 1 (length book.orders)
numbered_from book numbered = numbered.0 ∙ ap (range_with_len 1) (length-map book.orders (λ (o : Order). o.number))
