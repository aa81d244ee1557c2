-- What each participant may spend and what it sends, by index.
use Rattle.std.specs.Prelude.{◌≡◌, ℕ, ◌+◌, ◌^◌, ◌<◌, ◌≤◌, List, length, ◌+ℤ◌, pos, slice_index_or}
use Rattle.rtgs_gridlock.specs.declared.queues.Payment.{Payment}
use Rattle.rtgs_gridlock.specs.declared.positions.Position.{Position}
use Rattle.rtgs_gridlock.specs.declared.fundings.Funding.{Funding}
use Rattle.rtgs_gridlock.specs.Choices.{position_of, queue_of, sent, received}

-- the participants' fundings, and how many cover tests and removals were taken from them
pub record CountedFundings : Type 0 where
  pub list : List Funding
  pub steps : ℕ

-- a step more is counted, but that the count stays below 2^64
pub record IsCounted (old new : ℕ) : Type 0 where
  pub counted : old + 1 < 2 ^ 64 → new ≡ old + 1
  pub rises : old ≤ new
  pub most : new ≤ old + 1

-- the funding of a participant
abbrev pub funding_at : List Funding → ℕ → Funding
funding_at fundings p = slice_index_or fundings p (record { funds = 0; owed = 0 })

-- what a participant may spend
abbrev pub funds_of : List Funding → ℕ → ℕ
funds_of fundings p = (funding_at fundings p).funds

-- what a participant sends
abbrev pub owed_of : List Funding → ℕ → ℕ
owed_of fundings p = (funding_at fundings p).owed

-- a participant may spend what it sends
abbrev pub HasEnough : List Funding → ℕ → Type 0
HasEnough fundings p = owed_of fundings p ≤ funds_of fundings p

-- the choice of all payments
abbrev pub everything : List (List Payment) → ℕ → ℕ
everything queues p = length (queue_of queues p)

-- the fundings are those that a choice gives
pub record AreFundings (positions : List Position) (queues : List (List Payment)) (choice : ℕ → ℕ)
    (fundings : List Funding) : Type 0 where
  pub funds : (p : ℕ) → p < length queues →
      (position_of positions p).floor +ℤ pos (funds_of fundings p)
      ≡ (position_of positions p).balance +ℤ pos (received queues choice p)
  pub owed : (p : ℕ) → p < length queues → owed_of fundings p ≡ sent queues choice p
