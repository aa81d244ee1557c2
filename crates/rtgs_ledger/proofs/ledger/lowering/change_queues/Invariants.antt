use Rattle.std.proofs.Common.{take}
use Rattle.std.specs.List.{AllByRecursion}
use Rattle.rtgs_ledger.specs.Limits.{KeepsQueues}
use Rattle.rtgs_ledger.proofs.ledger.lowering.change_queues.Given as goal

-- those so far leave the queues
abbrev pub invariant-loop-row : goal.invariant-loop-row
invariant-loop-row l = AllByRecursion KeepsQueues (take l.row-index l.rows)
