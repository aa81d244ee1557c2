use Rattle.std.proofs.Common.{◌≡◌, ℕ, ◌<◌, ◌+ℤ◌, pos, get_or, length, slice_index}
use Rattle.rtgs_book.specs.declared.account.Account.{Account}
use Rattle.rtgs_ledger.specs.Limits.{limit_at}
use Rattle.rtgs_ledger.proofs.Limits.{headroom_at}
use Rattle.rtgs_ledger.proofs.ledger.Ledger.limits_from.Given as goal

abbrev pub invariant-loop-index : goal.invariant-loop-index
invariant-loop-index l = record {
  count : length l.limits.items ≡ l.index;
  each : (p : ℕ) (d : Account) → p < l.index → limit_at l.limits.items p
      ≡ headroom_at l.self.core.day.phase (get_or l.account-items p d) +ℤ pos (slice_index l.slacks p);
}
