use Rattle.std.proofs.Common.{ℕ, List, ℤ, ◌≤ℤ◌, take, map, nat_cmp}
use Rattle.std.specs.Cmp.Lexicographic.{slice_cmp}
use Rattle.std.specs.List.{AllByRecursion}
use Rattle.rtgs_money.specs.Amounts.{IsCredit}
use Rattle.rtgs_book.specs.declared.participant.Participant.{Participant}
use Rattle.rtgs_book.specs.Balance.{floor_at}
use Rattle.rtgs_book.specs.Totals.{Totals}
use Rattle.rtgs_soundness.proofs.rules.balances.are_covered.Given as goal

abbrev pub invariant-loop-participant : goal.invariant-loop-participant
invariant-loop-participant l = record {
  covered : (balance_of : List ℕ → ℤ) → Totals (slice_cmp nat_cmp) (map (λ (p : Participant). p.code) l.participants)
      balance_of l.balances →
      AllByRecursion (λ (p : Participant). floor_at l.phase p.credit ≤ℤ balance_of p.code)
      (take l.participant-index l.participants);
  credits : AllByRecursion (λ (p : Participant). IsCredit p.credit) (take l.participant-index l.participants);
}
