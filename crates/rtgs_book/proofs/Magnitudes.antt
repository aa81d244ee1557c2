-- No balance is large.
use Rattle.std.proofs.Common.{◌≡◌, ℕ, suc, ◌≤◌, ◌+◌, ◌*◌, ℤ, pos, neg_ℤ, ◌+ℤ◌, ◌≤ℤ◌, Bool, true, false, cond, List, []}
use Rattle.std.proofs.Common.{◌∷◌, Some, find, option_map, unwrap_or, length, arith}
use Rattle.std.proofs.lemmas.Int.{ints}
use Rattle.std.specs.List.{AllByRecursion}
use Rattle.rtgs_money.specs.declared.credit.TheConstants.Credit as Credit
use Rattle.rtgs_money.specs.Amounts.{IsCredit}
use Rattle.rtgs_book.specs.declared.limits.TheConstants.{LARGEST_BALANCE}
use Rattle.rtgs_book.specs.Books.{Book, Participant, is_closed}
use Rattle.rtgs_book.specs.Lookup.{has_code, participant_of, credit_of, codes_of}
use Rattle.rtgs_book.specs.IntSum.{int_sum_by}
use Rattle.rtgs_book.specs.Balance.{balance, floor, total}
use Rattle.rtgs_book.specs.Laws.{BalancesFit}
use Rattle.rtgs_book.specs.Ranges.{Fits}
use Rattle.rtgs_book.specs.Soundness.{IsSound}
use Rattle.rtgs_book.specs.Totals.{Within}
use Rattle.rtgs_lists.proofs.Lists.{all_both, all_weaker}

-- where no term is far below zero, none is far above the sum
high_terms : {X : Type 0} (f : X → ℤ) (low : ℕ) (xs : List X) → AllByRecursion (λ x. neg_ℤ (pos low) ≤ℤ f x) xs
    → (neg_ℤ (pos (length xs * low)) ≤ℤ int_sum_by f xs) × AllByRecursion
    (λ x. (f x +ℤ pos low) ≤ℤ (int_sum_by f xs +ℤ pos (length xs * low))) xs
high_terms f low [] h = (omega (arith, ints), tt)
high_terms f low (x ∷ xs) h =
    let rest = high_terms f low xs h.1 in
    let here = h.0 in
    let sum = rest.0 in
    let more : suc (length xs) * low ≡ low + length xs * low = omega arith in (
      omega (arith, ints),
      (
        omega (arith, ints),
        all_weaker (λ y. (f y +ℤ pos low) ≤ℤ (int_sum_by f xs +ℤ pos (length xs * low)))
            (λ y. (f y +ℤ pos low) ≤ℤ ((f x +ℤ int_sum_by f xs) +ℤ pos (suc (length xs) * low)))
            (λ y k. omega (arith, ints)) xs rest.1,
      ),
    )

-- a credit limit, if there is one
small_limit : (code : List ℕ) (ps : List Participant) → AllByRecursion (λ (p : Participant). IsCredit p.credit) ps
    → unwrap_or (option_map (λ (p : Participant). p.credit) (find (has_code code) ps)) 0 ≤ Credit.MAX
small_limit code [] h = omega arith
small_limit code (p ∷ ps) h = by (has_code code p) (small_limit code ps h.1)
  where
    by : (b : Bool) → unwrap_or (option_map (λ (p : Participant). p.credit) (find (has_code code) ps)) 0 ≤ Credit.MAX
        → unwrap_or (option_map (λ (p : Participant). p.credit) (cond b (Some p) (find (has_code code) ps))) 0
        ≤ Credit.MAX
    by true rest = h.0
    by false rest = rest

low_floor : (book : Book) (code : List ℕ) → Fits book → neg_ℤ (pos Credit.MAX) ≤ℤ floor book code
unfolding floor credit_of participant_of
low_floor book code h = by (is_closed book.day.phase) _ (small_limit code book.participants h.credits)
  where
    by : (b : Bool) (n : ℕ) → n ≤ Credit.MAX → neg_ℤ (pos Credit.MAX) ≤ℤ cond b (pos 0) (neg_ℤ (pos n))
    by true n few = omega (arith, ints)
    by false n few = omega (arith, ints)

-- the floors of a sound book, as a bound on its balances
above_limits : (book : Book) → IsSound book → Fits book
    → AllByRecursion (λ code. neg_ℤ (pos Credit.MAX) ≤ℤ balance book code) (codes_of book)
above_limits book h fits = all_weaker (λ code. floor book code ≤ℤ balance book code)
    (λ code. neg_ℤ (pos Credit.MAX) ≤ℤ balance book code)
    (λ code k. let low = low_floor book code fits in omega (arith, ints)) (codes_of book) h.floors

pub balances_small : (book : Book) → IsSound book → Fits book → BalancesFit book
unfolding total
balances_small book h fits =
    let floors = above_limits book h fits in
    let terms = high_terms (balance book) Credit.MAX (codes_of book) floors in
    let few = h.codes_rise.1 in
    let all = h.total_fits in
    all_both (λ code. neg_ℤ (pos Credit.MAX) ≤ℤ balance book code)
    (λ code. (balance book code +ℤ pos Credit.MAX) ≤ℤ (int_sum_by (balance book) (codes_of book) +ℤ pos
    (length (codes_of book) * Credit.MAX))) (λ code. Within LARGEST_BALANCE (balance book code))
    (λ code low high. (omega (arith, ints), omega (arith, ints))) (codes_of book) floors terms.1

pub total_small : (book : Book) → IsSound book → Fits book → Within LARGEST_BALANCE (total book)
unfolding total
total_small book h fits =
    let low = (high_terms (balance book) Credit.MAX (codes_of book) (above_limits book h fits)).0 in
    let few = h.codes_rise.1 in
    let high = h.total_fits in
    (omega (arith, ints), omega (arith, ints))
