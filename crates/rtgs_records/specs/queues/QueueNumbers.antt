-- Queues, as contracts see them.
use Rattle.std.specs.Prelude.{ℕ, ◌≤◌, ◌-◌, List, [], ◌∷◌, ⊤, vec_len}
use Rattle.std.specs.List.{AllByRecursion}
use Rattle.std.specs.BTreeMap.{get}
use Rattle.std.specs.Option.{option_map_or}
use Rattle.std.specs.Ordering.{nat_cmp}
use Rattle.std.specs.Cmp.Lexicographic.{slice_cmp}
use Rattle.std.specs.Vec.{vec_capacity}
use Rattle.rtgs_records.specs.declared.queues.queues.QueueNumbers.{QueueNumbers}

-- the numbers that stand there for the sender
abbrev pub numbers_of : QueueNumbers → List ℕ → List ℕ
numbers_of queues sender = option_map_or (λ queue. queue.items) (get (slice_cmp nat_cmp) queues.numbers sender)
    []

-- how many more can be put there without memory
abbrev pub room_of : QueueNumbers → List ℕ → ℕ
room_of queues sender = option_map_or (λ queue. vec_capacity queue - vec_len queue)
    (get (slice_cmp nat_cmp) queues.numbers sender) 0

-- numbers that never fall
abbrev pub AreInOrder : List ℕ → Type 0
AreInOrder [] = ⊤
AreInOrder (n ∷ ns) = AllByRecursion (λ later. n ≤ later) ns × AreInOrder ns
