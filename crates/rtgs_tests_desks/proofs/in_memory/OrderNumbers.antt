-- Orders by their numbers.
use Rattle.std.proofs.Common.{◌≡◌, ◌≢◌, ℕ, zero, suc, Bool, true, false, cond, ◌&&◌, ◌+◌, ◌<◌, List, [], ◌∷◌, ◌++◌, map}
use Rattle.std.proofs.Common.{length, get_or, length-append, refl, sym, ap, ◌∙◌, eq-eqb, true≢false, arith}
use Rattle.std.proofs.Math.ListN.{set}
use Rattle.std.proofs.lemmas.Bool.{ne_eqb}
use Rattle.std.proofs.lemmas.List.{length-map}
use Rattle.std.specs.List.{range_with_len}
use Rattle.rtgs_book.specs.declared.order.Order.{Order}
use Rattle.rtgs_book.specs.Commands.{has_number}
use Rattle.rtgs_book.specs.Settle.{altered}
use Rattle.rtgs_book.specs.Soundness.{AreNumbered}

abbrev pub numbers : List Order → List ℕ
numbers os = map (λ (o : Order). o.number) os

-- the numbers of the orders go on from the first
abbrev pub CountFrom : ℕ → List Order → Type 0
CountFrom first os = numbers os ≡ range_with_len first (length os)

first_is : (first : ℕ) (o : Order) (os : List Order) → CountFrom first (o ∷ os) → o.number ≡ first
first_is first o os e = cc

rest_count : (first : ℕ) (o : Order) (os : List Order) → CountFrom first (o ∷ os) → CountFrom (first + 1) os
rest_count first o os e = cc

-- the order has the number, and passes the test
abbrev pub passes_with : (Order → Bool) → ℕ → Order → Bool
passes_with test number o = test o && has_number number o

altered_other : (test : Order → Bool) (number : ℕ) (change : Order → Order) (o : Order) → o.number ≢ number
    → altered (passes_with test number) change o ≡ o
altered_other test number change o other = by (test o) (has_number number o) (ne_eqb o.number number other)
  where
    by : (a b : Bool) → b ≡ false → cond (a && b) (change o) o ≡ o
    by true true e = absurd (true≢false e)
    by true false e = refl
    by false b e = refl

altered_this : (test : Order → Bool) (number : ℕ) (change : Order → Order) (o : Order) → o.number ≡ number
    → altered (passes_with test number) change o ≡ altered test change o
altered_this test number change o this = by (test o) (has_number number o) (eq-eqb o.number number this)
  where
    by : (a b : Bool) → b ≡ true → cond (a && b) (change o) o ≡ cond a (change o) o
    by true true e = refl
    by true false e = absurd (true≢false (sym e))
    by false b e = refl

pub altered_numbers : (is_in : Order → Bool) (change : Order → Order) → ((o : Order) → (change o).number ≡ o.number)
    → (os : List Order) → numbers (map (altered is_in change) os) ≡ numbers os
altered_numbers is_in change same [] = refl
altered_numbers is_in change same (o ∷ os) = rw (altered_numbers is_in change same os, each (is_in o)) refl
  where
    each : (b : Bool) → (cond b (change o) o).number ≡ o.number
    each true = same o
    each false = refl

-- no order has a number outside
pub none_altered : (test : Order → Bool) (first number : ℕ) (change : Order → Order) (os : List Order)
    → CountFrom first os → ((k : ℕ) → k < length os → number ≢ first + k)
    → map (altered (passes_with test number) change) os ≡ os
none_altered test first number change [] e outside = refl
none_altered test first number change (o ∷ os) e outside =
    let this : o.number ≢ number = λ f. outside 0 (omega arith) (let g = first_is first o os e in omega arith) in
    let rest : map (altered (passes_with test number) change) os ≡ os =
    none_altered test (first + 1) number change os (rest_count first o os e)
    (λ k within f. outside (suc k) (omega arith) (omega arith)) in
    rw (altered_other test number change o this, rest) refl

-- the order with a number stands at its place, and is changed if it passes
pub one_altered : (test : Order → Bool) (first k : ℕ) (d : Order) (change : Order → Order) (os : List Order)
    → CountFrom first os → k < length os
    → set os k (altered test change (get_or os k d)) ≡ map (altered (passes_with test (first + k)) change) os
one_altered test first k d change [] e within = absurd (omega arith)
one_altered test first zero d change (o ∷ os) e within =
    let this : o.number ≡ first + 0 = let g = first_is first o os e in omega arith in
    let rest : map (altered (passes_with test (first + 0)) change) os
    ≡ os = none_altered test (first + 1) (first + 0) change os (rest_count first o os e)
    (λ k within f. absurd (omega arith)) in
    rw (altered_this test (first + 0) change o this, rest) refl
one_altered test first (suc k) d change (o ∷ os) e within =
    let this : o.number ≢ first + suc k = λ f. let g = first_is first o os e in omega arith in
    let same : (first + 1) + k ≡ first + suc k = omega arith in
    let rest : set os k (altered test change (get_or os k d))
    ≡ map (altered (passes_with test (first + suc k)) change) os =
    one_altered test (first + 1) k d change os (rest_count first o os e) (omega arith)
    ∙ ap (λ n. map (altered (passes_with test n) change) os) same in
    rw (altered_other test (first + suc k) change o this, rest) refl

-- ---- in the words of soundness

pub counts : (os : List Order) → AreNumbered (numbers os) → CountFrom 1 os
counts os h = h.0 ∙ ap (range_with_len 1) (length-map os (λ (o : Order). o.number))

prefix_counts : (first : ℕ) (xs ys : List ℕ) → xs ++ ys ≡ range_with_len first (length (xs ++ ys))
    → xs ≡ range_with_len first (length xs)
prefix_counts first [] ys e = refl
prefix_counts first (x ∷ xs) ys e =
    let head : x ≡ first = cc in
    let tail : xs ++ ys ≡ range_with_len (first + 1) (length (xs ++ ys)) = cc in
    let rest : xs ≡ range_with_len (first + 1) (length xs) = prefix_counts (first + 1) xs ys tail in
    cc

pub beginning_numbered : (xs ys : List ℕ) → AreNumbered (xs ++ ys) → AreNumbered xs
beginning_numbered xs ys h = (prefix_counts 1 xs ys h.0, let long = length-append xs ys in let few = h.1 in omega arith)
