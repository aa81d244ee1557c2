-- Numbers, and lists of them from 1 on.
use Rattle.std.proofs.Common.{◌≡◌, ◌==◌, ℕ, zero, suc, ◌+◌, ◌<◌, ◌≤◌, ℤ, ◌≤ℤ◌, int_le, true, false, List, [], ◌∷◌, ◌++◌}
use Rattle.std.proofs.Common.{map, length, length-append, nat_lt, sym, ap, ◌∙◌, arith}
use Rattle.std.proofs.lemmas.Bool.Decides.{nat_tests}
use Rattle.std.proofs.lemmas.Int.{ints}
use Rattle.std.specs.Ordering.{int_eq}
use Rattle.std.specs.List.{AllByRecursion, range_with_len}
use Rattle.rtgs_lists.proofs.Lists.{all_weaker}

pub eq_self : (n : ℕ) → (n == n) ≡ true
eq_self n = grind (arith, nat_tests)

pub lt_zero : (n : ℕ) → nat_lt n 0 ≡ false
lt_zero n = grind (arith, nat_tests)

pub other_number : (a n : ℕ) → a < 1 + n → (a == (n + 1)) ≡ false
other_number a n less = grind (arith, nat_tests)

pub int_eq_self : (z : ℤ) → int_eq z z ≡ true
int_eq_self z = grind (arith, ints)

pub same_from_int_eq : (a b : ℤ) → int_eq a b ≡ true → a ≡ b
same_from_int_eq a b e = grind (arith, ints)

pub le_from_test : (a b : ℤ) → int_le a b ≡ true → a ≤ℤ b
le_from_test a b e = grind (arith, ints)

range_suc : (a n : ℕ) → range_with_len a (suc n) ≡ range_with_len a n ++ (a + n) ∷ []
range_suc a zero = ap (λ m. m ∷ []) (omega arith)
range_suc a (suc n) = ap (λ xs. a ∷ xs) (range_suc (a + 1) n
    ∙ ap (λ m. range_with_len (a + 1) n ++ m ∷ []) (omega arith))

pub range_push : (a n : ℕ) → range_with_len a (n + 1) ≡ range_with_len a n ++ (a + n) ∷ []
range_push a n = let more : n + 1 ≡ suc n = omega arith in ap (range_with_len a) more ∙ range_suc a n

-- the next number goes to the end
pub numbered_push : (numbers : List ℕ) → numbers ≡ range_with_len 1 (length numbers)
    → numbers ++ (length numbers + 1) ∷ [] ≡ range_with_len 1 (length (numbers ++ (length numbers + 1) ∷ []))
numbered_push numbers e =
    let long : length (numbers ++ (length numbers + 1) ∷ [])
    ≡ length numbers + 1 = length-append numbers ((length numbers + 1) ∷ []) in
    let next : 1 + length numbers ≡ length numbers + 1 = omega arith in
    ap (λ xs. xs ++ (length numbers + 1) ∷ []) e ∙ sym (ap (range_with_len 1) long ∙ range_push 1 (length numbers)
    ∙ ap (λ m. range_with_len 1 (length numbers) ++ m ∷ []) next)

-- what is numbered one after another has no number below the first
pub not_below : {X : Type 0} (number : X → ℕ) (first : ℕ) (xs : List X)
    → map number xs ≡ range_with_len first (length xs) → AllByRecursion (λ x. first ≤ number x) xs
not_below number first [] e = tt
not_below number first (x ∷ xs) e =
    let head : number x ≡ first = cc in
    let rest : map number xs ≡ range_with_len (first + 1) (length xs) = cc in (
      omega arith,
      all_weaker (λ y. first + 1 ≤ number y) (λ y. first ≤ number y) (λ y le. omega arith) xs
          (not_below number (first + 1) xs rest),
    )

-- and each number is below the next
pub below_next : {X : Type 0} (number : X → ℕ) (first : ℕ) (xs : List X)
    → map number xs ≡ range_with_len first (length (map number xs))
    → AllByRecursion (λ x. number x < first + length xs) xs
below_next number first [] e = tt
below_next number first (x ∷ xs) e =
    let head : number x ≡ first = cc in
    let rest : map number xs ≡ range_with_len (first + 1) (length (map number xs)) = cc in (
      omega arith,
      all_weaker (λ y. number y < first + 1 + length xs) (λ y. number y < first + length (x ∷ xs))
          (λ y less. omega arith) xs (below_next number (first + 1) xs rest),
    )
