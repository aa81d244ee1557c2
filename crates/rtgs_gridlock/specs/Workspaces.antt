-- What a workspace holds, and what its steps do.
use Rattle.std.specs.Prelude.{◌≡◌, ℕ, List, length, take, ◌+◌, ◌-◌, ◌*◌, ◌<◌, ◌≤◌, ◌==◌, min, slice_index}
use Rattle.std.specs.Prelude.{slice_index_or, vec_len, if◌then◌else◌}
use Rattle.rtgs_gridlock.specs.declared.positions.Position.{Position}
use Rattle.rtgs_gridlock.specs.declared.queues.Payment.{Payment}
use Rattle.rtgs_gridlock.specs.declared.workspace.Workspace.{Workspace}
use Rattle.rtgs_gridlock.specs.Choices.{sum_below, queue_of, payment_count, amount_to}
use Rattle.rtgs_gridlock.specs.Fundings.{funds_of, owed_of, everything, AreFundings, IsCounted}
use Rattle.rtgs_gridlock.specs.Listed.{IsOn, on_count}

-- for how many participants there is room
abbrev pub reserved_participants : Workspace → ℕ
reserved_participants workspace = vec_len workspace.lengths

-- how many queued payments a resolution may have
abbrev pub reserved_payments : Workspace → ℕ
reserved_payments workspace = workspace.payments

-- of how many participants the last resolution was
abbrev pub participants_of : Workspace → ℕ
participants_of workspace = workspace.participants

-- the lengths of the choice that the last resolution left
abbrev pub lengths_of : Workspace → List ℕ
lengths_of workspace = take workspace.participants workspace.lengths.items

-- how many cover tests and removals were taken since the workspace was made
abbrev pub steps_of : Workspace → ℕ
steps_of workspace = workspace.fundings.steps

-- the present choice
abbrev pub choice_of : Workspace → ℕ → ℕ
choice_of workspace = slice_index workspace.lengths.items

-- by how much each participant was short at least, whenever the last resolution took a payment of it back
abbrev pub slacks_of : Workspace → List ℕ
slacks_of workspace = take workspace.participants workspace.slacks.items

-- the same of one participant
abbrev pub slack_at : Workspace → ℕ → ℕ
slack_at workspace = slice_index workspace.slacks.items

-- a participant is still to be tested
abbrev pub IsUntested : Workspace → ℕ → Type 0
IsUntested workspace p = IsOn workspace.untested p

-- how many participants are still to be tested
abbrev pub untested_count : Workspace → ℕ
untested_count workspace = on_count workspace.untested

-- how many steps may still come: a test of each participant that is untested, and for each chosen
-- payment its removal and two more tests
abbrev pub steps_left : List (List Payment) → Workspace → ℕ
steps_left queues workspace = untested_count workspace + 3 * sum_below (length queues) (choice_of workspace)

-- a participant's newest chosen payment
abbrev pub newest : List (List Payment) → (ℕ → ℕ) → ℕ → Payment
newest queues choice p = slice_index_or (queue_of queues p) (choice p - 1) (record { receiver = 0; amount = 0 })

-- a participant is short and has a payment to take back: its newest chosen one goes to a
-- participant, and is part of what it owes and of what the receiver has
pub record CanTakeBack (queues : List (List Payment)) (index : ℕ) (workspace : Workspace) : Type 0 where
  pub some : 0 < choice_of workspace index
  pub short : funds_of workspace.fundings.list index < owed_of workspace.fundings.list index
  pub within : choice_of workspace index ≤ length (queue_of queues index)
  pub receiver : (newest queues (choice_of workspace) index).receiver < length queues
  pub owed : (newest queues (choice_of workspace) index).amount ≤ owed_of workspace.fundings.list index
  pub funds : (newest queues (choice_of workspace) index).amount
      ≤ funds_of workspace.fundings.list (newest queues (choice_of workspace) index).receiver

-- there is room for the participants and payments of the queues
pub record HasRoomFor (workspace : Workspace) (queues : List (List Payment)) : Type 0 where
  pub participants : length queues ≤ reserved_participants workspace
  pub payments : payment_count queues ≤ reserved_payments workspace

-- what was reserved stays
pub record KeepsRoom (old new : Workspace) : Type 0 where
  pub participants : reserved_participants new ≡ reserved_participants old
  pub payments : reserved_payments new ≡ reserved_payments old

-- all payments are chosen, which is no step, and nobody was short yet
pub record IsFilled (positions : List Position) (queues : List (List Payment)) (old new : Workspace) : Type 0 where
  pub participants : participants_of new ≡ length queues
  pub choice : (p : ℕ) → p < length queues → choice_of new p ≡ everything queues p
  pub fundings : AreFundings positions queues (everything queues) new.fundings.list
  pub slack : (p : ℕ) → p < length queues → 0 < slack_at new p
  pub steps : steps_of new ≡ steps_of old
  pub room : KeepsRoom old new

-- only the list of those still to be tested may differ
pub record SameButUntested (old new : Workspace) : Type 0 where
  pub participants : participants_of new ≡ participants_of old
  pub choice : new.lengths ≡ old.lengths
  pub slacks : new.slacks ≡ old.slacks
  pub fundings : new.fundings.list ≡ old.fundings.list
  pub steps : steps_of new ≡ steps_of old
  pub payments : reserved_payments new ≡ reserved_payments old

-- both parties of a payment are still to be tested, and so is whoever was before
pub record ListsParties (sender receiver : ℕ) (old new : Workspace) : Type 0 where
  pub sender_waits : IsUntested new sender
  pub receiver_waits : IsUntested new receiver
  pub others_wait : (p : ℕ) → IsUntested old p → IsUntested new p

-- a test counts, and changes nothing else
pub record IsTested (old new : Workspace) : Type 0 where
  pub participants : participants_of new ≡ participants_of old
  pub choice : new.lengths ≡ old.lengths
  pub slacks : new.slacks ≡ old.slacks
  pub fundings : new.fundings.list ≡ old.fundings.list
  pub untested : new.untested ≡ old.untested
  pub steps : IsCounted (steps_of old) (steps_of new)
  pub payments : reserved_payments new ≡ reserved_payments old

-- a participant's newest chosen payment is taken back, which counts, and its slack is at most by
-- how much it was short
pub record IsTakenBack (queues : List (List Payment)) (index : ℕ) (old new : Workspace) : Type 0 where
  pub participants : participants_of new ≡ participants_of old
  pub fewer : choice_of new index + 1 ≡ choice_of old index
  pub others : (p : ℕ) → (p ≡ index → ⊥) → choice_of new p ≡ choice_of old p
  pub slack : slack_at new index
      ≡ min (slack_at old index) (owed_of old.fundings.list index - funds_of old.fundings.list index)
  pub other_slacks : (p : ℕ) → (p ≡ index → ⊥) → slack_at new p ≡ slack_at old p
  pub funds : (p : ℕ) → funds_of new.fundings.list p + amount_to p (newest queues (choice_of old) index)
      ≡ funds_of old.fundings.list p
  pub owed : (p : ℕ) →
      owed_of new.fundings.list p + (if p == index then (newest queues (choice_of old) index).amount else 0)
      ≡ owed_of old.fundings.list p
  pub untested : new.untested ≡ old.untested
  pub steps : IsCounted (steps_of old) (steps_of new)
  pub room : KeepsRoom old new
