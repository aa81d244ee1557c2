-- A sum over orders is the sum over all accounts of what each sends.
use Rattle.std.proofs.Common.{◌≡◌, ℕ, ℤ, pos, ◌+ℤ◌, Bool, true, false, cond, List, [], ◌∷◌, filter, nat_cmp}
use Rattle.std.proofs.Common.{refl, ◌∙◌, arith}
use Rattle.std.proofs.lemmas.Int.{ints}
use Rattle.std.specs.List.{AllByRecursion, list_any}
use Rattle.std.specs.List.Sorted.{IsStrictlySortedBy}
use Rattle.std.specs.Str.{bytes_eq}
use Rattle.std.specs.Cmp.Lexicographic.{slice_cmp}
use Rattle.rtgs_book.specs.declared.order.Order.{Order}
use Rattle.rtgs_book.specs.IntSum.{int_sum_by}
use Rattle.rtgs_lists.proofs.Sums.{at_code, int_sum_by-both, int_sum_by-same, sum_at_code}

zeros : (codes : List (List ℕ)) → int_sum_by (λ code. pos 0) codes ≡ pos 0
zeros [] = refl
zeros (c ∷ codes) = let z = zeros codes in omega (arith, ints)

-- the orders of one sender
abbrev pub sent_by : List ℕ → List Order → List Order
sent_by code os = filter (λ (o : Order). bytes_eq o.sender code) os

-- orders whose senders all have accounts
pub by_senders : (codes : List (List ℕ)) → IsStrictlySortedBy (slice_cmp nat_cmp) codes
    → (f : Order → ℤ) (os : List Order) → AllByRecursion (λ (o : Order). list_any (bytes_eq o.sender) codes ≡ true) os
    → int_sum_by (λ code. int_sum_by f (sent_by code os)) codes ≡ int_sum_by f os
by_senders codes rise f [] h = zeros codes
by_senders codes rise f (o ∷ os) h =
    int_sum_by-same (λ code. int_sum_by f (sent_by code (o ∷ os)))
    (λ code. at_code o.sender (f o) code +ℤ int_sum_by f (sent_by code os))
    (λ code. one (bytes_eq o.sender code) (sent_by code os)) codes
    ∙ int_sum_by-both (at_code o.sender (f o)) (λ code. int_sum_by f (sent_by code os)) codes
    ∙ (λ i. sum_at_code o.sender (f o) codes rise h.0 i +ℤ by_senders codes rise f os h.1 i)
  where
    one : (b : Bool) (rest : List Order) → int_sum_by f (cond b (o ∷ rest) rest)
        ≡ cond b (f o) (pos 0) +ℤ int_sum_by f rest
    one true rest = refl
    one false rest = omega (arith, ints)
