use Rattle.std.proofs.Common.{◌≡◌, ℕ, ◌<◌, ◌≤◌, length}
use Rattle.rtgs_gridlock.specs.Listed.{IsOn, on_count}
use Rattle.rtgs_gridlock.proofs.worklist.Worklist.fill.Given as goal

abbrev pub invariant-loop-index : goal.invariant-loop-index
invariant-loop-index l = length l.self ≡ length l.initial.self

abbrev pub decreases-loop-index : goal.decreases-loop-index
decreases-loop-index l = on_count l.self

abbrev pub invariant-loop-index-2 : goal.invariant-loop-index-2
invariant-loop-index-2 l = record {
  reserved : length l.self ≡ length l.initial.self;
  all : (p : ℕ) → p < l.index → IsOn l.self p;
  only : (p : ℕ) → IsOn l.self p → p < l.index;
  few : on_count l.self ≤ l.index;
}
