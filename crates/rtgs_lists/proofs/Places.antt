-- An element that is put in at the place where those that pass a test end.
use Rattle.std.proofs.Common.{◌≡◌, zero, suc, ◌≤◌, Bool, true, false, cond, not, List, [], ◌∷◌, ◌++◌, ℕ}
use Rattle.std.proofs.Common.{filter, length, refl, sym, ap, ◌∙◌, true≢false, arith}
use Rattle.std.specs.List.{AllByRecursion, AllWithin, insert}
use Rattle.rtgs_lists.proofs.Filters.{filter_nothing, put_in}

-- where none passes, all are among those that don't
pub filter_others : {X : Type 0} (p : X → Bool) (xs : List X) → AllByRecursion (λ x. p x ≡ false) xs
    → filter (λ x. not (p x)) xs ≡ xs
filter_others p [] h = refl
filter_others p (x ∷ xs) h = rw (h.0, filter_others p xs h.1) refl

-- where none passes, it comes first
pub put_in_first : {X : Type 0} (p : X → Bool) (new : X) (xs : List X) → AllByRecursion (λ x. p x ≡ false) xs
    → put_in p new xs ≡ new ∷ xs
put_in_first p new xs none = ap (λ ys. ys ++ new ∷ filter (λ x. not (p x)) xs) (filter_nothing p xs none)
    ∙ ap (λ ys. new ∷ ys) (filter_others p xs none)

none_of : {X : Type 0} (P : X → Type 0) (xs : List X) → AllWithin P xs 0 (length xs) → AllByRecursion P xs
none_of P [] h = tt
none_of P (x ∷ xs) h = (
  h 0 x (omega arith) (omega arith),
  none_of P xs
      (λ k d low high. h (suc k) d (omega arith) (omega arith)),
)

-- where those that pass come first, and there are i of them
pub put_in_at : {X : Type 0} (p : X → Bool) (new : X) (xs : List X) (i : ℕ) → i ≤ length xs
    → AllWithin (λ x. p x ≡ true) xs 0 i → AllWithin (λ x. p x ≡ false) xs i (length xs)
    → insert xs i new ≡ put_in p new xs
put_in_at p new [] zero short pass fail = refl
put_in_at p new [] (suc i) short pass fail = absurd (omega arith)
put_in_at p new (x ∷ xs) zero short pass fail =
    sym (put_in_first p new (x ∷ xs) (none_of (λ x. p x ≡ false) (x ∷ xs) fail))
put_in_at {X} p new (x ∷ xs) (suc i) short pass fail =
    by (p x) (pass 0 x (omega arith) (omega arith)) (put_in_at p new xs i (omega arith)
    (λ k d low high. pass (suc k) d (omega arith) (omega arith))
    (λ k d low high. fail (suc k) d (omega arith) (omega arith)))
  where
    by : (b : Bool) → b ≡ true → insert xs i new ≡ put_in p new xs
        → x ∷ insert xs i new ≡ cond b (x ∷ filter p xs) (filter p xs) ++ new
        ∷ cond (not b) (x ∷ filter (λ y. not (p y)) xs) (filter (λ y. not (p y)) xs)
    by true e rest = ap (λ ys. x ∷ ys) rest
    by false e rest = absurd (true≢false (sym e))
