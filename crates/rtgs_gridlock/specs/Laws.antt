-- What is left when a choice is settled.
use Rattle.std.specs.Prelude.{List, length, ◌≡◌, ℕ, ◌<◌, drop}
use Rattle.rtgs_gridlock.specs.declared.queues.Payment.{Payment}
use Rattle.rtgs_gridlock.specs.declared.positions.Position.{Position}
use Rattle.rtgs_gridlock.specs.Choices.{sum_below, position_of, queue_of, sent, after}

-- the chosen payments are gone from the queues, and the balances are those after them
pub record IsSettled (positions : List Position) (queues : List (List Payment)) (choice : ℕ → ℕ)
    (rest_positions : List Position) (rest_queues : List (List Payment)) : Type 0 where
  pub count : length rest_queues ≡ length queues
  pub floors : (p : ℕ) → p < length queues → (position_of rest_positions p).floor ≡ (position_of positions p).floor
  pub balances : (p : ℕ) → p < length queues → (position_of rest_positions p).balance ≡ after positions queues choice p
  pub queues_left : (p : ℕ) → p < length queues → queue_of rest_queues p ≡ drop (choice p) (queue_of queues p)

-- how many payments a choice takes
abbrev pub order_count : List (List Payment) → (ℕ → ℕ) → ℕ
order_count queues choice = sum_below (length queues) choice

-- the amounts of the payments that a choice takes, together
abbrev pub value_of : List (List Payment) → (ℕ → ℕ) → ℕ
value_of queues choice = sum_below (length queues) (sent queues choice)
