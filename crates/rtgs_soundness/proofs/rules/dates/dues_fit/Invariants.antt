use Rattle.std.proofs.Common.{take}
use Rattle.std.specs.List.{AllByRecursion}
use Rattle.rtgs_book.specs.declared.order.Order.{Order}
use Rattle.rtgs_book.specs.Soundness.{FitsDue}
use Rattle.rtgs_soundness.proofs.rules.dates.dues_fit.Given as goal

abbrev pub invariant-loop-order : goal.invariant-loop-order
invariant-loop-order l = AllByRecursion (λ (o : Order). FitsDue l.today o.due o.date o.state)
    (take l.order-index l.orders)
