use Rattle.std.proofs.Common.{◌≡◌, ℕ, List, take}
use Rattle.rtgs_desk.specs.Payments.{paid_in, paid_to}
use Rattle.rtgs_desk.proofs.payments.Payments.of.Given as goal

-- those of the first orders
abbrev pub invariant-loop-order : goal.invariant-loop-order
invariant-loop-order l = record {
  paid : (code : List ℕ) → paid_in l.payments code ≡ paid_to code (take l.order-index l.orders);
}
