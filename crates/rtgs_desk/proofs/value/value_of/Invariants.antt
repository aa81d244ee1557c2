use Rattle.std.proofs.Common.{◌≡◌, ◌≤◌, ◌*◌, ◌^◌, pos, take}
use Rattle.rtgs_desk.specs.Readings.{value_of}
use Rattle.rtgs_desk.proofs.value.value_of.Given as goal

-- the value so far, and each order pays at most 10^12
abbrev pub invariant-loop-order : goal.invariant-loop-order
invariant-loop-order l = record {
  value : l.cents ≡ pos (value_of (take l.order-index l.orders));
  high : value_of (take l.order-index l.orders) ≤ 10 ^ 12 * l.order-index;
}
