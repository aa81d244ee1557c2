-- A debit's digits.
use Rattle.std.proofs.Common.{◌≡◌, ◌≤◌, ℕ, ℤ, pos, negsuc, zero, suc, List, ◌∷◌, get_or, refl, ap, arith}
use Rattle.std.proofs.lemmas.Fmt.{first_decimal}
use Rattle.std.specs.Fmt.{decimal, signed_decimal}
use Rattle.rtgs_money.specs.declared.posting_amount.TheConstants.PostingAmount as posting_amount
use Rattle.rtgs_money.specs.Amounts.{IsPostingAmount}

-- a text that begins with a dash spells a number below zero
pub below_zero : (bytes : List ℕ) (posting : ℤ) → IsPostingAmount posting → 45 ∷ bytes ≡ signed_decimal posting
    → (n : ℕ) × (1 ≤ n) × (n ≤ posting_amount.MAX) × (bytes ≡ decimal n)
below_zero bytes (pos zero) is same = absurd (is.0 refl)
below_zero bytes (pos (suc n)) is same = absurd (omega (
  arith,
  is.1,
  first_decimal (suc n) (omega arith)
      (omega (arith, is.1)),
  ap (λ t. get_or t 0 0) same,
))
below_zero bytes (negsuc n) is same = (suc n, omega arith, is.1, cc)
