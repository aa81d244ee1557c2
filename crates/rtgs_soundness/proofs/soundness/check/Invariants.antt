use Rattle.std.proofs.Common.{◌≤◌}
use Rattle.rtgs_book.specs.Ranges.{Fits}
use Rattle.rtgs_soundness.proofs.RuleOrder.{KeepsFirst}
use Rattle.rtgs_soundness.proofs.soundness.check.Given as goal

abbrev pub invariant-loop-rule : goal.invariant-loop-rule
invariant-loop-rule l = record {
  kept : KeepsFirst l.book l.rule-index;
  fits : 12 ≤ l.rule-index → Fits l.book;
}
