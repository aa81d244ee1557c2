-- A balance, parted into what it was at the end of a date and what the days since moved.
use Rattle.std.proofs.Common.{◌≡◌, ℕ, ℤ, ◌+ℤ◌, Bool, true, false, cond, List, [], ◌∷◌, filter, refl, arith}
use Rattle.std.specs.Prelude.{not}
use Rattle.std.specs.Str.{bytes_eq}
use Rattle.std.proofs.lemmas.Int.{ints}
use Rattle.rtgs_book.specs.declared.book.Book.{Book}
use Rattle.rtgs_book.specs.declared.posting.Posting.{Posting}
use Rattle.rtgs_book.specs.Balance.{balance, gain}
use Rattle.rtgs_book.specs.Books.{is_settled}
use Rattle.rtgs_book.specs.IntSum.{int_sum_by}
use Rattle.rtgs_statements.specs.Closing.{closing, moved_since, is_posted_after, is_ordered_after}
use Rattle.rtgs_statements.specs.Sums.{cents_of}
use Rattle.rtgs_statements.proofs.Terms.{sum-cons}

module _ {X : Type 0} (f : X → ℤ) (q p : X → Bool) where
  abbrev rest_of : List X → List X
  rest_of xs = filter (λ x. not (p x)) xs

  parted : (xs : List X) → (int_sum_by f (filter q (rest_of xs)) +ℤ int_sum_by f (filter q (filter p xs)))
      ≡ int_sum_by f (filter q xs)
  parted [] = refl
  parted (x ∷ xs) = by (p x) (parted xs)
    where
      by : (b : Bool) → (int_sum_by f (filter q (rest_of xs)) +ℤ int_sum_by f (filter q (filter p xs)))
          ≡ int_sum_by f (filter q xs)
          → (int_sum_by f (filter q (cond (not b) (x ∷ rest_of xs) (rest_of xs)))
          +ℤ int_sum_by f (filter q (cond b (x ∷ filter p xs) (filter p xs)))) ≡ int_sum_by f (filter q (x ∷ xs))
      by true h = let one = sum-cons f q x (filter p xs) in let all = sum-cons f q x xs in omega (arith, ints)
      by false h = let one = sum-cons f q x (rest_of xs) in let all = sum-cons f q x xs in omega (arith, ints)

pub worked_back : (book : Book) (code : List ℕ) (date : ℕ)
    → (closing book code date +ℤ moved_since book code date) ≡ balance book code
unfolding closing moved_since balance
worked_back book code date =
    let postings = parted cents_of (λ (posting : Posting). bytes_eq posting.code code) (is_posted_after date)
    book.postings in
    let orders = parted (gain code) is_settled (is_ordered_after date) book.orders in
    omega (arith, ints)
