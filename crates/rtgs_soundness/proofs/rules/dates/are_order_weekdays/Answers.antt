use Rattle.rtgs_book.specs.declared.order.Order.{Order}
use Rattle.rtgs_soundness.proofs.Loops.{weekdays}
use Rattle.rtgs_soundness.proofs.rules.dates.are_order_weekdays.Goals as goal

pub returns : goal.returns
returns c = rw c.each_order_is_on_a_weekday.ensures (weekdays (λ (x : Order). x.date) c.args.orders.now)
