-- Forms that a value has or has not.
use Rattle.std.proofs.Common.{◌≡◌, ◌⊎◌, ◌<◌, ◌≤◌, inl, inr, ℕ, zero, suc, ℤ, pos, negsuc, Bool, true, false}
use Rattle.std.proofs.Common.{refl, arith}
use Rattle.std.specs.Prelude.{◌≢◌, IsTrue, unsigned_abs}
use Rattle.std.proofs.lemmas.Bool.{cases_lt, false≢true}
use Rattle.rtgs_money.specs.declared.amount.TheConstants.Amount as Amount
use Rattle.rtgs_money.specs.declared.credit.TheConstants.Credit as Credit
use Rattle.rtgs_money.specs.declared.posting_amount.TheConstants.PostingAmount as PostingAmount
use Rattle.rtgs_money.specs.Amounts.{IsAmount, IsPostingAmount, IsCredit}

pub truth : (b : Bool) → IsTrue b ⊎ (¬ IsTrue b)
truth true = inl refl
truth false = inr (λ h. false≢true h)

pub amount : (n : ℕ) → IsAmount n ⊎ (¬ IsAmount n)
amount n = by (cases_lt n 1) (cases_lt Amount.MAX n)
  where
    by : (n < 1) ⊎ (1 ≤ n) → (Amount.MAX < n) ⊎ (n ≤ Amount.MAX) → IsAmount n ⊎ (¬ IsAmount n)
    by (inl low) _ = inr (λ h. omega (arith, low, h.0))
    by (inr enough) (inl high) = inr (λ h. omega (arith, high, h.1))
    by (inr enough) (inr small) = inl (enough, small)

pub credit : (n : ℕ) → IsCredit n ⊎ (¬ IsCredit n)
credit n = by (cases_lt Credit.MAX n)
  where
    by : (Credit.MAX < n) ⊎ (n ≤ Credit.MAX) → IsCredit n ⊎ (¬ IsCredit n)
    by (inl high) = inr (λ h. omega (arith, high, h))
    by (inr small) = inl small

zero_or_not : (z : ℤ) → (z ≡ pos 0) ⊎ (z ≢ pos 0)
zero_or_not (pos zero) = inl refl
zero_or_not (pos (suc n)) = inr (λ (h : pos (suc n) ≡ pos 0). cc)
zero_or_not (negsuc n) = inr (λ (h : negsuc n ≡ pos 0). cc)

pub posting : (z : ℤ) → IsPostingAmount z ⊎ (¬ IsPostingAmount z)
posting z = by (zero_or_not z) (cases_lt PostingAmount.MAX (unsigned_abs z))
  where
    by : (z ≡ pos 0) ⊎ (z ≢ pos 0) → (PostingAmount.MAX < unsigned_abs z) ⊎ (unsigned_abs z ≤ PostingAmount.MAX)
        → IsPostingAmount z ⊎ (¬ IsPostingAmount z)
    by (inl nothing) _ = inr (λ h. h.0 nothing)
    by (inr some) (inl high) = inr (λ h. omega (arith, high, h.1))
    by (inr some) (inr small) = inl (some, small)
