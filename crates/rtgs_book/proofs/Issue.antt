-- All balances together are what was issued, since a settled order moves money and makes none.
use Rattle.std.proofs.Common.{◌≡◌, ℕ, ℤ, pos, ◌+ℤ◌, ◌-ℤ◌, Bool, true, false, cond, List, [], ◌∷◌, filter, refl, ap, ◌∙◌}
use Rattle.std.proofs.Common.{arith}
use Rattle.std.proofs.lemmas.Int.{ints}
use Rattle.std.specs.List.{AllByRecursion, list_any}
use Rattle.std.specs.List.Sorted.{IsStrictlySortedBy}
use Rattle.std.specs.Ordering.{nat_cmp}
use Rattle.std.specs.Str.{bytes_eq}
use Rattle.std.specs.Cmp.Lexicographic.{slice_cmp}
use Rattle.rtgs_book.specs.Books.{Book, Posting, Order, is_settled}
use Rattle.rtgs_book.specs.Lookup.{codes_of, is_participant}
use Rattle.rtgs_book.specs.IntSum.{int_sum_by}
use Rattle.rtgs_book.specs.Balance.{balance, total, issued, gain, postings_of}
use Rattle.rtgs_book.specs.Soundness.{CodesRise, PartiesAreKnown, has_parties}
use Rattle.rtgs_lists.proofs.Bools.{and_left, and_right}
use Rattle.rtgs_lists.proofs.Lists.{all_filter, all_weaker}
use Rattle.rtgs_lists.proofs.Sums.{at_code, int_sum_by-both, sum_at_code, int_sum_by-less}

-- ---- a settled order moves money and makes none

gains_none : (codes : List (List ℕ)) (o : Order) → IsStrictlySortedBy (slice_cmp nat_cmp) codes
    → list_any (bytes_eq o.sender) codes ≡ true → list_any (bytes_eq o.receiver) codes ≡ true
    → int_sum_by (λ code. gain code o) codes ≡ pos 0
unfolding gain
gains_none codes o rise s r =
    let split = int_sum_by-less (at_code o.receiver (pos o.amount)) (at_code o.sender (pos o.amount)) codes in
    let gets = sum_at_code o.receiver (pos o.amount) codes rise r in
    let gives = sum_at_code o.sender (pos o.amount) codes rise s in
    split ∙ zero_left _ _ (pos o.amount) gets gives
  where
    zero_left : (a b c : ℤ) → a ≡ c → b ≡ c → a -ℤ b ≡ pos 0
    zero_left a b c e f = omega (arith, ints)

batch_gains_none : (codes : List (List ℕ)) → IsStrictlySortedBy (slice_cmp nat_cmp) codes → (os : List Order)
    → AllByRecursion (λ (o : Order). (list_any (bytes_eq o.sender) codes ≡ true)
    × (list_any (bytes_eq o.receiver) codes ≡ true)) os
    → int_sum_by (λ code. int_sum_by (gain code) os) codes ≡ pos 0
batch_gains_none codes rise [] h = zeros codes
  where
    zeros : (codes : List (List ℕ)) → int_sum_by (λ code. pos 0) codes ≡ pos 0
    zeros [] = refl
    zeros (c ∷ codes) = let z = zeros codes in omega (arith, ints)
batch_gains_none codes rise (o ∷ os) h =
    let split = int_sum_by-both (λ code. gain code o) (λ code. int_sum_by (gain code) os) codes in
    let one = gains_none codes o rise h.0.0 h.0.1 in
    let rest = batch_gains_none codes rise os h.1 in
    split ∙ both_zero _ _ one rest
  where
    both_zero : (a b : ℤ) → a ≡ pos 0 → b ≡ pos 0 → a +ℤ b ≡ pos 0
    both_zero a b e f = omega (arith, ints)

-- the parties of an order have accounts
parties_known : (book : Book) → PartiesAreKnown book → AllByRecursion
    (λ (o : Order). (list_any (bytes_eq o.sender) (codes_of book) ≡ true)
    × (list_any (bytes_eq o.receiver) (codes_of book) ≡ true)) book.orders
unfolding is_participant
parties_known book h = all_weaker (λ o. has_parties book o ≡ true)
    (λ (o : Order). (list_any (bytes_eq o.sender) (codes_of book) ≡ true)
    × (list_any (bytes_eq o.receiver) (codes_of book) ≡ true)) (λ o e. (
      and_left _ _ (and_left _ _ e),
      and_right _ _
          (and_left _ _ e),
    ))
    book.orders h.0

-- ---- each posting stands in one account

postings_in_accounts : (codes : List (List ℕ)) → IsStrictlySortedBy (slice_cmp nat_cmp) codes → (ps : List Posting)
    → AllByRecursion (λ (p : Posting). list_any (bytes_eq p.code) codes ≡ true) ps
    → int_sum_by (λ code. int_sum_by (λ (p : Posting). p.cents) (filter (λ (p : Posting). bytes_eq p.code code) ps))
    codes ≡ int_sum_by (λ (p : Posting). p.cents) ps
postings_in_accounts codes rise [] h = zeros codes
  where
    zeros : (codes : List (List ℕ)) → int_sum_by (λ code. pos 0) codes ≡ pos 0
    zeros [] = refl
    zeros (c ∷ codes) = let z = zeros codes in omega (arith, ints)
postings_in_accounts codes rise (p ∷ ps) h =
    ap (λ (f : List ℕ → ℤ). int_sum_by f codes) (λ i code. one (bytes_eq p.code code)
    (filter (λ (p : Posting). bytes_eq p.code code) ps) i)
    ∙ int_sum_by-both (at_code p.code p.cents) (λ code. int_sum_by (λ (p : Posting). p.cents)
    (filter (λ (p : Posting). bytes_eq p.code code) ps)) codes
    ∙ (λ i. sum_at_code p.code p.cents codes rise h.0 i +ℤ postings_in_accounts codes rise ps h.1 i)
  where
    one : (b : Bool) (rest : List Posting) → int_sum_by (λ (p : Posting). p.cents) (cond b (p ∷ rest) rest)
        ≡ cond b p.cents (pos 0) +ℤ int_sum_by (λ (p : Posting). p.cents) rest
    one true rest = refl
    one false rest = omega (arith, ints)

pub total_from_rules : (book : Book) → CodesRise book → PartiesAreKnown book → total book ≡ issued book
unfolding total issued balance is_participant
total_from_rules book codes parties =
    int_sum_by-both (λ code. int_sum_by (λ (p : Posting). p.cents) (postings_of book code))
    (λ code. int_sum_by (gain code) (filter is_settled book.orders)) (codes_of book)
    ∙ both _ _ (postings_in_accounts (codes_of book) codes.0 book.postings parties.1)
    (batch_gains_none (codes_of book) codes.0 (filter is_settled book.orders)
    (all_filter _ is_settled book.orders (parties_known book parties)))
  where
    both : (a b : ℤ) {c : ℤ} → a ≡ c → b ≡ pos 0 → a +ℤ b ≡ c
    both a b e f = omega (arith, ints)
