use Rattle.std.proofs.Common.{◌≡◌, ◌*◌, pos, ◌+ℤ◌, ◌≤ℤ◌, drop}
use Rattle.rtgs_money.specs.declared.amount.TheConstants.Amount as Amount
use Rattle.rtgs_laws.specs.Quiet.{value_of}
use Rattle.rtgs_ledger.proofs.ledger.freeing.value_of.Given as goal

-- the sum so far, with that of what is left, is the sum of all
abbrev pub invariant-loop-order : goal.invariant-loop-order
invariant-loop-order l = record {
  rest : (l.sum +ℤ value_of (drop l.order-index l.orders)) ≡ value_of l.orders;
  low : pos 0 ≤ℤ l.sum;
  high : l.sum ≤ℤ pos (Amount.MAX * l.order-index);
}
