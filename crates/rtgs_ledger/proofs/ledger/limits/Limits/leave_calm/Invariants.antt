use Rattle.std.proofs.Common.{ℕ, ◌<◌, get_or}
use Rattle.rtgs_book.specs.declared.account.Account.{Account}
use Rattle.rtgs_ledger.specs.Limits.{IsBelow, account_after}
use Rattle.rtgs_ledger.proofs.Limits.{headroom_at}
use Rattle.rtgs_ledger.proofs.ledger.limits.Limits.leave_calm.Given as goal

-- the headrooms so far are below their limits
abbrev pub invariant-loop-index : goal.invariant-loop-index
invariant-loop-index l = (p : ℕ) (d : Account) → p < l.index
    → IsBelow l.self.list.items l.lowering p (headroom_at l.records.day.phase
    (account_after l.rows (get_or l.account-items p d)))
