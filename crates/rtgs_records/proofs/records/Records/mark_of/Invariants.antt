use Rattle.std.proofs.Common.{◌≡◌, ◌≤◌, ◌*◌, pos, take, sum_by, length}
use Rattle.rtgs_money.specs.declared.amount.TheConstants.Amount as Amount
use Rattle.rtgs_book.specs.declared.limits.TheConstants.{MOST_QUEUED}
use Rattle.rtgs_book.specs.declared.order.Order.{Order}
use Rattle.rtgs_records.proofs.records.Records.mark_of.Given as goal

-- the value of the first orders, where there are no more than there may be
abbrev pub invariant-loop-order : goal.invariant-loop-order
invariant-loop-order l = record {
  value : length l.orders ≤ MOST_QUEUED
      → l.value ≡ pos (sum_by (λ (o : Order). o.amount) (take l.order-index l.orders));
  small : sum_by (λ (o : Order). o.amount) (take l.order-index l.orders) ≤ l.order-index * Amount.MAX;
}
