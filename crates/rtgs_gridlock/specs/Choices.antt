-- What a choice of queue beginnings is, when it is feasible, and when it is the greatest.
use Rattle.std.specs.Prelude.{◌≡◌, ℕ, zero, suc, ◌+◌, ◌<◌, ◌≤◌, ◌==◌, List, [], length, take, if◌then◌else◌, ℤ, pos}
use Rattle.std.specs.Prelude.{◌+ℤ◌, ◌-ℤ◌, ◌≤ℤ◌, slice_index_or, sum_by, All}
use Rattle.rtgs_gridlock.specs.declared.queues.Payment.{Payment}
use Rattle.rtgs_gridlock.specs.declared.positions.Position.{Position}

-- f 0 + f 1 + .. + f (n - 1)
unfoldable pub sum_below : ℕ → (ℕ → ℕ) → ℕ
sum_below zero f = 0
sum_below (suc n) f = sum_below n f + f n

-- the balance and floor of a participant
abbrev pub position_of : List Position → ℕ → Position
position_of positions p = slice_index_or positions p (record { balance = pos 0; floor = pos 0 })

-- the queued payments of a participant, the oldest first
abbrev pub queue_of : List (List Payment) → ℕ → List Payment
queue_of queues p = slice_index_or queues p []

-- how many payments are queued
unfoldable pub payment_count : List (List Payment) → ℕ
payment_count queues = sum_below (length queues) (λ p. length (queue_of queues p))

-- what a payment brings to a participant
abbrev pub amount_to : ℕ → Payment → ℕ
amount_to p payment = if payment.receiver == p then payment.amount else 0

-- what a participant sends by the payments chosen of its queue
unfoldable pub sent : List (List Payment) → (ℕ → ℕ) → ℕ → ℕ
sent queues choice p = sum_by (λ payment. payment.amount) (take (choice p) (queue_of queues p))

-- what a participant receives by the payments chosen of all queues
unfoldable pub received : List (List Payment) → (ℕ → ℕ) → ℕ → ℕ
received queues choice p =
    sum_below (length queues) (λ sender. sum_by (amount_to p) (take (choice sender) (queue_of queues sender)))

-- the balance after settling all that is chosen
abbrev pub after : List Position → List (List Payment) → (ℕ → ℕ) → ℕ → ℤ
after positions queues choice p =
    (position_of positions p).balance -ℤ pos (sent queues choice p) +ℤ pos (received queues choice p)

-- a choice leaves a participant at its floor or above
abbrev pub IsCovered : List Position → List (List Payment) → (ℕ → ℕ) → ℕ → Type 0
IsCovered positions queues choice p = (position_of positions p).floor ≤ℤ (after positions queues choice p)

-- a choice takes a beginning of each queue
abbrev pub IsWithin : List (List Payment) → (ℕ → ℕ) → Type 0
IsWithin queues choice = (p : ℕ) → p < length queues → choice p ≤ length (queue_of queues p)

-- a choice that leaves no participant below its floor
pub record IsFeasible (positions : List Position) (queues : List (List Payment)) (choice : ℕ → ℕ) : Type 0 where
  pub within : IsWithin queues choice
  pub covered : (p : ℕ) → p < length queues → IsCovered positions queues choice p

-- the feasible choice that no feasible choice exceeds at any participant
pub record IsGreatest (positions : List Position) (queues : List (List Payment)) (choice : ℕ → ℕ) : Type 0 where
  pub feasible : IsFeasible positions queues choice
  pub largest : (other : ℕ → ℕ) → IsFeasible positions queues other → (p : ℕ) → p < length queues → other p ≤ choice p

-- no balance is below its floor
abbrev pub AreFloored : List Position → Type 0
AreFloored positions = All (λ position. position.floor ≤ℤ position.balance) positions

-- each payment's receiver is a participant
abbrev pub AreInRange : List (List Payment) → Type 0
AreInRange queues = All (λ queue. All (λ payment. payment.receiver < length queues) queue) queues

-- each participant has a position and a queue, no balance is below its floor, and each receiver is a participant
pub record AreResolvable (positions : List Position) (queues : List (List Payment)) : Type 0 where
  pub as_many : length positions ≡ length queues
  pub floored : AreFloored positions
  pub receivers : AreInRange queues
