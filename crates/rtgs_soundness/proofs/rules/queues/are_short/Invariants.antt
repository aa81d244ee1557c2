use Rattle.std.proofs.Common.{ℕ, List, ℤ, pos, ◌≤ℤ◌, take, map, nat_cmp}
use Rattle.std.specs.Cmp.Lexicographic.{slice_cmp}
use Rattle.std.specs.List.{AllByRecursion}
use Rattle.rtgs_book.specs.declared.participant.Participant.{Participant}
use Rattle.rtgs_book.specs.declared.limits.TheConstants.{LONGEST_QUEUE}
use Rattle.rtgs_book.specs.Totals.{Totals}
use Rattle.rtgs_soundness.proofs.rules.queues.are_short.Given as goal

abbrev pub invariant-loop-participant : goal.invariant-loop-participant
invariant-loop-participant l = (length_of : List ℕ → ℤ) → Totals (slice_cmp nat_cmp)
    (map (λ (p : Participant). p.code) l.participants) length_of l.lengths →
    AllByRecursion (λ (p : Participant). length_of p.code ≤ℤ pos LONGEST_QUEUE)
    (take l.participant-index l.participants)
