use Rattle.std.proofs.Common.{◌≡◌, ◌*◌, ◌≤◌, sum_by, take}
use Rattle.rtgs_gridlock.specs.declared.queues.TheConstants.{LARGEST_AMOUNT}
use Rattle.rtgs_gridlock.proofs.fundings.total_of.Given as goal

abbrev pub invariant-loop-payment : goal.invariant-loop-payment
invariant-loop-payment l =
    (l.total ≡ sum_by (λ payment. payment.amount) (take l.payment-index l.payments))
    × (l.total ≤ l.payment-index * LARGEST_AMOUNT)
