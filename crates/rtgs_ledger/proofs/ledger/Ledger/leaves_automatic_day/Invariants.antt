use Rattle.std.proofs.Common.{◌≡◌, drop}
use Rattle.rtgs_ledger.specs.Following.{day_after}
use Rattle.rtgs_ledger.proofs.ledger.Ledger.leaves_automatic_day.Given as goal

-- the rows that are left lead from the day so far to the one that all of them leave
abbrev pub invariant-loop-row : goal.invariant-loop-row
invariant-loop-row l = day_after l.day (drop l.row-index l.row-items) ≡ day_after l.self.core.day l.row-items
