-- Sums under codes, record by record.
use Rattle.std.proofs.Common.{◌≡◌, ℕ, ◌+◌, ◌<◌, ◌≤◌, ℤ, pos, ◌+ℤ◌, ◌≤ℤ◌, neg_ℤ, Bool, true, false, cond, List, ◌∷◌}
use Rattle.std.proofs.Common.{filter, length, get_or, drop, Some, unwrap_or, nat_cmp, refl, sym, ap, ◌∙◌, arith}
use Rattle.std.proofs.lemmas.Int.{ints}
use Rattle.std.proofs.lemmas.List.{drop_more}
use Rattle.std.specs.BTreeMap.{BTreeMap, get, is_at}
use Rattle.std.specs.Cmp.Lexicographic.{slice_cmp, bytes_decides, texts_ties}
use Rattle.std.specs.Str.{bytes_eq}
use Rattle.rtgs_book.specs.IntSum.{int_sum_by}
use Rattle.rtgs_statements.specs.Sums.{sum_at}

-- between minus the bound and the bound
abbrev pub Within : ℕ → ℤ → Type 0
Within bound z = (neg_ℤ (pos bound) ≤ℤ z) × (z ≤ℤ pos bound)

module _ {X : Type 0} (f : X → ℤ) (p : X → Bool) where
  -- the first element counts where it passes
  pub sum-cons : (x : X) (xs : List X) → int_sum_by f (filter p (x ∷ xs))
      ≡ cond (p x) (f x) (pos 0) +ℤ int_sum_by f (filter p xs)
  sum-cons x xs = by (p x)
    where
      by : (b : Bool) → int_sum_by f (cond b (x ∷ filter p xs) (filter p xs))
          ≡ cond b (f x) (pos 0) +ℤ int_sum_by f (filter p xs)
      by true = refl
      by false = omega (arith, ints)

  -- what is left to add, before an element and after it
  pub sum-left : (xs : List X) (i : ℕ) (x : X) → i < length xs → x ≡ get_or xs i x
      → int_sum_by f (filter p (drop i xs)) ≡ cond (p x) (f x) (pos 0) +ℤ int_sum_by f (filter p (drop (i + 1) xs))
  sum-left xs i x less is =
      ap (λ ys. int_sum_by f (filter p ys)) (drop_more xs i x less ∙ ap (λ y. y ∷ drop (i + 1) xs) (sym is))
      ∙ sum-cons x (drop (i + 1) xs)

-- the total under a code after one more term
pub added : (m n : BTreeMap (List ℕ) ℤ) (code : List ℕ) (by total : ℤ) → total ≡ sum_at m code +ℤ by
    → ((q : List ℕ) → get (slice_cmp nat_cmp) n q ≡ cond (is_at (slice_cmp nat_cmp code) q) (Some total)
    (get (slice_cmp nat_cmp) m q))
    → (q : List ℕ) → sum_at n q ≡ sum_at m q +ℤ cond (bytes_eq code q) by (pos 0)
added m n code by total is updates q = at (bytes_eq code q) refl
  where
    at : (b : Bool) → bytes_eq code q ≡ b → sum_at n q ≡ sum_at m q +ℤ cond b by (pos 0)
    at true e =
        let here : is_at (slice_cmp nat_cmp code) q ≡ true = sym (texts_ties code q) ∙ e in
        let same : code ≡ q = (bytes_decides code q).0 e in
        ap (λ o. unwrap_or o (pos 0)) (updates q ∙ ap (λ b. cond b (Some total) (get (slice_cmp nat_cmp) m q)) here)
        ∙ is ∙ ap (λ k. sum_at m k +ℤ by) same
    at false e =
        let there : is_at (slice_cmp nat_cmp code) q ≡ false = sym (texts_ties code q) ∙ e in
        let kept : sum_at m q ≡ sum_at m q +ℤ pos 0 = omega (arith, ints) in
        ap (λ o. unwrap_or o (pos 0)) (updates q ∙ ap (λ b. cond b (Some total) (get (slice_cmp nat_cmp) m q)) there)
        ∙ kept

pub term-within : (b : Bool) (bound : ℕ) (by : ℤ) → Within bound by → Within bound (cond b by (pos 0))
term-within true bound by h = h
term-within false bound by h = (omega (arith, ints), omega (arith, ints))

-- one more term: what is left, and what was added so far
pub step-sum : (before after left rest whole given by : ℤ) (b : Bool) → given ≡ by
    → after ≡ before +ℤ cond b given (pos 0) → left ≡ cond b by (pos 0) +ℤ rest → (before +ℤ left) ≡ whole
    → (after +ℤ rest) ≡ whole
step-sum before after left rest whole given by b same is more h =
    let term : cond b given (pos 0) ≡ cond b by (pos 0) = ap (λ z. cond b z (pos 0)) same in
    omega (arith, ints)

pub step-within : (n bound : ℕ) (before after given by : ℤ) (b : Bool) → Within bound by → given ≡ by
    → after ≡ before +ℤ cond b given (pos 0) → Within n before → Within (n + bound) after
step-within n bound before after given by b fits same is h =
    let term : cond b given (pos 0) ≡ cond b by (pos 0) = ap (λ z. cond b z (pos 0)) same in
    let r = term-within b bound by fits in
    let low = r.0 in let high = r.1 in let from = h.0 in let to = h.1 in
    (omega (arith, ints), omega (arith, ints))

pub wider : (m n : ℕ) (z : ℤ) → m ≤ n → Within m z → Within n z
wider m n z le h = let low = h.0 in let high = h.1 in (omega (arith, ints), omega (arith, ints))
