use Rattle.std.proofs.Common.{◌≡◌, ◌++◌, drop, slice_index}
use Rattle.rtgs_ledger.specs.Choosing.{taken_from}
use Rattle.rtgs_ledger.proofs.ledger.Ledger.beginnings.Given as goal

-- with the beginnings of the queues that are left, those so far are all of them
abbrev pub invariant-loop-index : goal.invariant-loop-index
invariant-loop-index l = l.orders.items ++ taken_from (slice_index l.lengths) l.self.core.waiting l.index
    (drop l.index l.account-items) ≡ taken_from (slice_index l.lengths) l.self.core.waiting 0 l.account-items
