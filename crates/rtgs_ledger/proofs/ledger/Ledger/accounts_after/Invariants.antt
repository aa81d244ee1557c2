use Rattle.std.proofs.Common.{◌≡◌, ◌≤◌, map, take, length}
use Rattle.rtgs_book.specs.declared.limits.TheConstants.{MOST_QUEUED}
use Rattle.rtgs_ledger.specs.Resolving.{AreSmall, after_orders}
use Rattle.rtgs_ledger.proofs.Settling.{AreNear}
use Rattle.rtgs_ledger.proofs.ledger.Ledger.accounts_after.Given as goal

-- the first orders are settled, where the balances were small and the orders are few
abbrev pub invariant-loop-order : goal.invariant-loop-order
invariant-loop-order l = AreSmall l.self.core.accounts → length l.orders ≤ MOST_QUEUED
    → (l.settled.accounts ≡ map (after_orders (take l.order-index l.orders)) l.self.core.accounts)
    × AreNear l.order-index l.settled.accounts
