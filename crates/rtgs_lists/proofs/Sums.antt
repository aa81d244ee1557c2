-- Sums of signed numbers, and over codes.
use Rattle.std.proofs.Common.{◌≡◌, ℕ, ℤ, pos, ◌+ℤ◌, ◌-ℤ◌, Bool, true, false, cond, ◌||◌, List, [], ◌∷◌, ◌++◌}
use Rattle.std.proofs.Common.{nat_cmp, Less, refl, sym, subst, true≢false, arith}
use Rattle.std.proofs.lemmas.Int.{ints}
use Rattle.std.specs.List.{AllByRecursion, list_any}
use Rattle.std.specs.List.Sorted.{IsStrictlySortedBy}
use Rattle.std.specs.Str.{bytes_eq}
use Rattle.std.specs.Cmp.Lexicographic.{slice_cmp, bytes_decides}
use Rattle.rtgs_lists.specs.IntSum.{int_sum_by}
use Rattle.rtgs_lists.proofs.Codes.{later_differs}

pub int_sum_by-append : {X : Type 0} (f : X → ℤ) (xs ys : List X)
    → int_sum_by f (xs ++ ys) ≡ int_sum_by f xs +ℤ int_sum_by f ys
int_sum_by-append f [] ys = omega (arith, ints)
int_sum_by-append f (x ∷ xs) ys = let h = int_sum_by-append f xs ys in omega (arith, ints)

pub int_sum_by-both : {X : Type 0} (f g : X → ℤ) (xs : List X)
    → int_sum_by (λ x. f x +ℤ g x) xs ≡ int_sum_by f xs +ℤ int_sum_by g xs
int_sum_by-both f g [] = refl
int_sum_by-both f g (x ∷ xs) = let h = int_sum_by-both f g xs in omega (arith, ints)

pub int_sum_by-less : {X : Type 0} (f g : X → ℤ) (xs : List X)
    → int_sum_by (λ x. f x -ℤ g x) xs ≡ int_sum_by f xs -ℤ int_sum_by g xs
int_sum_by-less f g [] = refl
int_sum_by-less f g (x ∷ xs) = let h = int_sum_by-less f g xs in omega (arith, ints)

pub int_sum_by-same : {X : Type 0} (f g : X → ℤ) → ((x : X) → f x ≡ g x) → (xs : List X)
    → int_sum_by f xs ≡ int_sum_by g xs
int_sum_by-same f g same xs i = int_sum_by (λ x. same x i) xs

-- ---- a term at one code alone

abbrev pub at_code : List ℕ → ℤ → List ℕ → ℤ
at_code code v other = cond (bytes_eq code other) v (pos 0)

pub sum_later : (code : List ℕ) (v : ℤ) (codes : List (List ℕ)) → AllByRecursion
    (λ later. slice_cmp nat_cmp code later ≡ Less) codes → int_sum_by (at_code code v) codes ≡ pos 0
sum_later code v [] h = refl
sum_later code v (c ∷ codes) h = let rest = sum_later code v codes h.1
    in rw (later_differs code c h.0) (omega (arith, ints))

-- over codes that rise, the term comes once
pub sum_at_code : (code : List ℕ) (v : ℤ) (codes : List (List ℕ)) → IsStrictlySortedBy (slice_cmp nat_cmp) codes
    → list_any (bytes_eq code) codes ≡ true → int_sum_by (at_code code v) codes ≡ v
unfolding IsStrictlySortedBy
sum_at_code code v [] rise has = absurd (true≢false (sym has))
sum_at_code code v (c ∷ codes) rise has = by (bytes_eq code c) refl has (sum_at_code code v codes rise.1)
  where
    by : (b : Bool) → bytes_eq code c ≡ b → (b || list_any (bytes_eq code) codes) ≡ true
        → (list_any (bytes_eq code) codes ≡ true → int_sum_by (at_code code v) codes ≡ v)
        → cond b v (pos 0) +ℤ int_sum_by (at_code code v) codes ≡ v
    by true e h rest =
        let same : code ≡ c = (bytes_decides code c).0 e in
        let none = sum_later code v codes (subst (λ x. AllByRecursion (λ later. slice_cmp nat_cmp x later ≡ Less) codes)
        (sym same) rise.0) in
        omega (arith, ints)
    by false e h rest = let r = rest h in omega (arith, ints)
