use Rattle.std.proofs.Common.{ℕ, ◌<◌, List, length, All, slice_index_or}
use Rattle.rtgs_gridlock.specs.declared.queues.Payment.{Payment}
use Rattle.rtgs_gridlock.proofs.queues.Queues.are_in_range.Given as goal

abbrev pub invariant-loop-index : goal.invariant-loop-index
invariant-loop-index l =
    (p : ℕ) → (d : List Payment) → p < l.index → All (λ payment. payment.receiver < length l.self)
    (slice_index_or l.self p d)
