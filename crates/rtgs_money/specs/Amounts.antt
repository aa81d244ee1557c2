-- The ranges of amounts, in cents.
use Rattle.std.specs.Prelude.{ℕ, ◌≤◌, ◌≢◌, ℤ, pos, unsigned_abs}
use Rattle.rtgs_money.specs.declared.amount.TheConstants.Amount as amount
use Rattle.rtgs_money.specs.declared.posting_amount.TheConstants.PostingAmount as posting
use Rattle.rtgs_money.specs.declared.credit.TheConstants.Credit as credit

-- what an order may pay
abbrev pub IsAmount : ℕ → Type 0
IsAmount cents = (1 ≤ cents) × (cents ≤ amount.MAX)

-- what a posting may add, or take below zero
abbrev pub IsPostingAmount : ℤ → Type 0
IsPostingAmount cents = (cents ≢ pos 0) × (unsigned_abs cents ≤ posting.MAX)

-- how far a participant may go below zero
abbrev pub IsCredit : ℕ → Type 0
IsCredit cents = cents ≤ credit.MAX
