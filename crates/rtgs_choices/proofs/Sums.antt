-- Sums over indexes, and sums over lists part by part.
use Rattle.std.proofs.Common.{◌≡◌, ℕ, zero, suc, ◌<◌, ◌≤◌, ◌+◌, ◌*◌, ◌==◌, nat_lt, Bool, true, false, cond, List, []}
use Rattle.std.proofs.Common.{◌∷◌, map, filter, sum_by, refl, sym, ap, ◌∙◌, arith}
use Rattle.std.proofs.lemmas.Bool.Decides.{nat_tests}
use Rattle.std.proofs.lemmas.List.Sums.{sum_by-cons}
use Rattle.std.specs.List.{AllByRecursion}
use Rattle.rtgs_book.specs.declared.limits.TheConstants.{LONGEST_QUEUE}
use Rattle.rtgs_gridlock.specs.Choices.{sum_below}

pub sum_below-same : (n : ℕ) (f g : ℕ → ℕ) → ((i : ℕ) → i < n → f i ≡ g i) → sum_below n f ≡ sum_below n g
unfolding sum_below
sum_below-same zero f g h = refl
sum_below-same (suc n) f g h = omega (arith, sum_below-same n f g (λ i less. h i (omega arith)), h n (omega arith))

-- no part is longer than the longest queue
pub sum_below-bound : (n : ℕ) (f : ℕ → ℕ) → ((i : ℕ) → i < n → f i ≤ LONGEST_QUEUE) → sum_below n f ≤ n * LONGEST_QUEUE
unfolding sum_below
sum_below-bound zero f h = omega arith
sum_below-bound (suc n) f h = omega (arith, sum_below-bound n f (λ i less. h i (omega arith)), h n (omega arith))

sum_below-both : (n : ℕ) (f g : ℕ → ℕ) → sum_below n (λ i. f i + g i) ≡ sum_below n f + sum_below n g
unfolding sum_below
sum_below-both zero f g = refl
sum_below-both (suc n) f g = omega (arith, sum_below-both n f g)

sum_below-zero : (n : ℕ) → sum_below n (λ i. 0) ≡ 0
unfolding sum_below
sum_below-zero zero = refl
sum_below-zero (suc n) = omega (arith, sum_below-zero n)

one_more : (k n v : ℕ) → cond (nat_lt k n) v 0 + cond (k == n) v 0 ≡ cond (nat_lt k (suc n)) v 0
one_more k n v = grind (arith, nat_tests)

-- a term at one index alone
sum_below-only : (n k v : ℕ) → sum_below n (λ i. cond (k == i) v 0) ≡ cond (nat_lt k n) v 0
unfolding sum_below
sum_below-only zero k v = grind (arith, nat_tests)
sum_below-only (suc n) k v = ap (λ s. s + cond (k == n) v 0) (sum_below-only n k v) ∙ one_more k n v

module _ {X : Type 0} (f : X → ℕ) where
  pub sum_by-map : {Y : Type 0} (g : Y → X) (ys : List Y) → sum_by f (map g ys) ≡ sum_by (λ y. f (g y)) ys
  sum_by-map g [] = refl
  sum_by-map g (y ∷ ys) = sum_by-cons f (g y) (map g ys) ∙ ap (λ n. f (g y) + n) (sum_by-map g ys)
      ∙ sym (sum_by-cons (λ y. f (g y)) y ys)

  pub sum_by-same : (g : X → ℕ) → ((x : X) → f x ≡ g x) → (xs : List X) → sum_by f xs ≡ sum_by g xs
  sum_by-same g same xs i = sum_by (λ x. same x i) xs

  -- what passes, or 0
  pub sum_by-filter : (p : X → Bool) (xs : List X) → sum_by f (filter p xs) ≡ sum_by (λ x. cond (p x) (f x) 0) xs
  sum_by-filter p [] = refl
  sum_by-filter p (x ∷ xs) = by (p x) (sum_by-filter p xs) ∙ sym (sum_by-cons (λ x. cond (p x) (f x) 0) x xs)
    where
      by : (b : Bool) → sum_by f (filter p xs) ≡ sum_by (λ x. cond (p x) (f x) 0) xs
          → sum_by f (cond b (x ∷ filter p xs) (filter p xs)) ≡ cond b (f x) 0 + sum_by (λ x. cond (p x) (f x) 0) xs
      by true e = sum_by-cons f x (filter p xs) ∙ ap (λ n. f x + n) e
      by false e = omega arith

  -- a list whose elements all have an index below n is the sum of its parts
  pub sum_by-parts : (key : X → ℕ) (n : ℕ) (xs : List X) → AllByRecursion (λ x. key x < n) xs
      → sum_below n (λ i. sum_by f (filter (λ x. key x == i) xs)) ≡ sum_by f xs
  sum_by-parts key n [] h = sum_below-zero n
  sum_by-parts key n (x ∷ xs) h =
      sum_below-same n (λ i. sum_by f (filter (λ x. key x == i) (x ∷ xs)))
      (λ i. cond (key x == i) (f x) 0 + sum_by f (filter (λ x. key x == i) xs))
      (λ i less. by (key x == i) (filter (λ x. key x == i) xs))
      ∙ sum_below-both n (λ i. cond (key x == i) (f x) 0) (λ i. sum_by f (filter (λ x. key x == i) xs))
      ∙ (λ j. (sum_below-only n (key x) (f x) ∙ ap (λ t. cond t (f x) 0) (below (key x) n h.0)) j
      + sum_by-parts key n xs h.1 j)
      ∙ sym (sum_by-cons f x xs)
    where
      below : (k n : ℕ) → k < n → nat_lt k n ≡ true
      below k n less = grind (arith, nat_tests)

      by : (b : Bool) (ys : List X) → sum_by f (cond b (x ∷ ys) ys) ≡ cond b (f x) 0 + sum_by f ys
      by true ys = sum_by-cons f x ys
      by false ys = omega arith
