use Rattle.rtgs_soundness.proofs.Loops.{Rising}
use Rattle.rtgs_soundness.proofs.rules.dates.never_fall.Given as goal

abbrev pub invariant-loop-row : goal.invariant-loop-row
invariant-loop-row g l = Rising g.T.Recorded.date_of l.rows l.last l.latest l.row-index
