use Rattle.std.proofs.Common.{take}
use Rattle.std.specs.List.{AllByRecursion}
use Rattle.rtgs_ledger.specs.Limits.{KeepsAccounts}
use Rattle.rtgs_ledger.proofs.ledger.staying_calm.change_accounts.Given as goal

-- those so far leave the accounts
abbrev pub invariant-loop-row : goal.invariant-loop-row
invariant-loop-row l = AllByRecursion KeepsAccounts (take l.row-index l.rows)
