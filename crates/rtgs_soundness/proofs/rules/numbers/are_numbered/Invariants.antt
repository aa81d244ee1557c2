use Rattle.rtgs_soundness.proofs.Loops.{Counted}
use Rattle.rtgs_soundness.proofs.rules.numbers.are_numbered.Given as goal

abbrev pub invariant-loop-index : goal.invariant-loop-index
invariant-loop-index g l = Counted g.T.Recorded.number_of l.rows l.index
