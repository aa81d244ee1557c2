use Rattle.std.proofs.Common.{◌≡◌, ◌*◌, pos, ◌+ℤ◌, ◌≤ℤ◌, drop}
use Rattle.rtgs_money.specs.declared.amount.TheConstants.Amount as Amount
use Rattle.rtgs_laws.specs.Quiet.{queued_to}
use Rattle.rtgs_ledger.proofs.ledger.Ledger.queued_to.Given as goal

-- what the orders so far would bring, with what the others would, is what all would
abbrev pub invariant-loop-order : goal.invariant-loop-order
invariant-loop-order l = record {
  rest : (l.sum +ℤ queued_to (drop l.order-index l.order-items) l.code) ≡ queued_to l.order-items l.code;
  low : pos 0 ≤ℤ l.sum;
  high : l.sum ≤ℤ pos (Amount.MAX * l.order-index);
}
