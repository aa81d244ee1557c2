-- How far headrooms may rise before a choice can be exceeded.
use Rattle.std.specs.Prelude.{◌≡◌, ℕ, ◌<◌, ◌≤◌, ◌++◌, ◌∷◌, [], List, length, ℤ, pos, ◌+ℤ◌, ◌-ℤ◌, ◌<ℤ◌, ◌≤ℤ◌}
use Rattle.std.specs.Prelude.{slice_index}
use Rattle.rtgs_gridlock.specs.declared.queues.Payment.{Payment}
use Rattle.rtgs_gridlock.specs.declared.positions.Position.{Position}
use Rattle.rtgs_gridlock.specs.Choices.{position_of, queue_of, sent, received, IsFeasible}
use Rattle.rtgs_gridlock.specs.Fundings.{everything}

-- how far a participant's balance is above its floor
abbrev pub headroom_of : List Position → ℕ → ℤ
headroom_of positions p = (position_of positions p).balance -ℤ (position_of positions p).floor

-- the headroom of each of the first participants is below its limit
abbrev pub AreBelow : ℕ → List Position → (ℕ → ℤ) → Type 0
AreBelow count positions limits = (p : ℕ) → p < count → headroom_of positions p <ℤ limits p

-- while each headroom is below its limit, no feasible choice exceeds this one at any participant
pub record IsCeiling (queues : List (List Payment)) (choice : ℕ → ℕ) (limits : ℕ → ℤ) : Type 0 where
  pub at_most : (positions : List Position) → AreBelow (length queues) positions limits → (other : ℕ → ℕ)
      → IsFeasible positions queues other → (p : ℕ) → p < length queues → other p ≤ choice p

-- the headrooms that are too high, where each may rise by less than this
abbrev pub risen : List Position → (ℕ → ℕ) → ℕ → ℤ
risen positions slacks p = headroom_of positions p +ℤ pos (slacks p)

-- each participant has some slack, and while no headroom rises by as much as its slack, no
-- feasible choice exceeds this one
pub record HasSlack (positions : List Position) (queues : List (List Payment)) (choice : ℕ → ℕ)
    (slacks : List ℕ) : Type 0
  where
    pub count : length slacks ≡ length queues
    pub some : (p : ℕ) → p < length queues → 0 < slice_index slacks p
    pub ceiling : IsCeiling queues choice (risen positions (slice_index slacks))

-- no headroom rose by as much as its slack
abbrev pub RoseLess : List Position → List Position → List ℕ → ℕ → Type 0
RoseLess positions moved slacks count = (p : ℕ) → p < count
    → (headroom_of moved p -ℤ headroom_of positions p) <ℤ pos (slice_index slacks p)

-- nothing that is queued can settle
abbrev pub IsCalm : List Position → List (List Payment) → Type 0
IsCalm positions queues = (other : ℕ → ℕ) → IsFeasible positions queues other → (p : ℕ) → p < length queues
    → other p ≡ 0

-- each of the first limits is at most this
abbrev pub AreAtMost : ℕ → (ℕ → ℤ) → (ℕ → ℤ) → Type 0
AreAtMost count lower limits = (p : ℕ) → p < count → lower p ≤ℤ limits p

-- what a participant would send beyond what it would receive, if all that is queued settled
abbrev pub net_of : List (List Payment) → ℕ → ℤ
net_of queues p = pos (sent queues (everything queues) p) -ℤ pos (received queues (everything queues) p)

-- a payment more stands at the end of the sender's queue
pub record IsAppended (queues : List (List Payment)) (sender : ℕ) (payment : Payment)
    (new : List (List Payment)) : Type 0
  where
    pub sender_is : sender < length queues
    pub count : length new ≡ length queues
    pub longer : queue_of new sender ≡ queue_of queues sender ++ payment ∷ []
    pub others : (p : ℕ) → (p ≡ sender → ⊥) → queue_of new p ≡ queue_of queues p

-- a payment is gone from the sender's queue, where it stood between these
pub record IsWithdrawn (queues : List (List Payment)) (sender : ℕ) (payment : Payment)
    (new : List (List Payment)) : Type 0
  where
    pub sender_is : sender < length queues
    pub count : length new ≡ length queues
    pub earlier : List Payment
    pub later : List Payment
    pub before : queue_of queues sender ≡ earlier ++ payment ∷ later
    pub after : queue_of new sender ≡ earlier ++ later
    pub others : (p : ℕ) → (p ≡ sender → ⊥) → queue_of new p ≡ queue_of queues p
