use Rattle.std.proofs.Common.{◌≡◌, ℕ, ◌<◌, slice_index}
use Rattle.rtgs_gridlock.specs.Fundings.{everything}
use Rattle.rtgs_gridlock.proofs.workspace.choose_all.Given as goal

abbrev pub invariant-loop-index : goal.invariant-loop-index
invariant-loop-index l = (p : ℕ) → p < l.index → slice_index l.lengths p ≡ everything l.queues p
