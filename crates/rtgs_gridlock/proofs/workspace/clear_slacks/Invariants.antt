use Rattle.std.proofs.Common.{ℕ, ◌<◌, slice_index}
use Rattle.rtgs_gridlock.proofs.workspace.clear_slacks.Given as goal

abbrev pub invariant-loop-index : goal.invariant-loop-index
invariant-loop-index l = (p : ℕ) → p < l.index → 0 < slice_index l.slacks p
