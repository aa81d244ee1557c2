use Rattle.std.proofs.Common.{◌≡◌, ◌*◌, take, length, All}
use Rattle.rtgs_money.specs.declared.amount.TheConstants.Amount as Amount
use Rattle.rtgs_soundness.specs.Tallies.{AreTallies, IsTallyWithin}
use Rattle.rtgs_soundness.proofs.rules.marks.add_orders.Given as goal

abbrev pub invariant-loop-order : goal.invariant-loop-order
invariant-loop-order l = record {
  places : length l.tallies ≡ length l.fn.tallies;
  sums : AreTallies (take l.order-index l.orders) l.tallies;
  within : All (IsTallyWithin (l.order-index * Amount.MAX)) l.tallies;
}
