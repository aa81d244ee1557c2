use Rattle.std.proofs.Common.{not}
use Rattle.rtgs_book.specs.declared.order.Order.{Order}
use Rattle.rtgs_book.specs.Books.{has_due}
use Rattle.rtgs_soundness.proofs.Loops.{RisingIn}
use Rattle.rtgs_soundness.proofs.rules.dates.plain_never_fall.Given as goal

abbrev pub invariant-loop-order : goal.invariant-loop-order
invariant-loop-order l = RisingIn (λ (o : Order). o.date) (λ o. not (has_due o)) l.orders l.last l.reached l.order-index
