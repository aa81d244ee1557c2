use Rattle.std.proofs.Common.{◌≡◌, drop}
use Rattle.rtgs_ledger.specs.Limits.{account_after}
use Rattle.rtgs_ledger.proofs.ledger.staying_calm.account_after.Given as goal

-- the rows that are left make of the account so far what all of them make of it
abbrev pub invariant-loop-row : goal.invariant-loop-row
invariant-loop-row l = account_after (drop l.row-index l.rows) l.after ≡ account_after l.rows l.account
