use Rattle.std.proofs.Common.{not, sym, true≢false}
use Rattle.rtgs_book.specs.declared.order.Order.{Order}
use Rattle.rtgs_book.specs.Books.{has_due}
use Rattle.rtgs_soundness.proofs.Loops.{rise_more_in, fallen_in, risen_all_in}
use Rattle.rtgs_soundness.proofs.rules.dates.plain_never_fall.Goals as goal

pub loop-order-preserved : goal.loop-order-preserved
loop-order-preserved c = rise_more_in (λ (o : Order). o.date) (λ o. not (has_due o)) c.args.orders.now c.args.last
    c.loop-order.reached c.loop-order.order-index c.date_after-date.result c.order-item.result c.loop-order.invariant
    c.loop-order-test.true c.order-item.is c.date_after-date.ensures c.if-date-reached.false

pub returns-then-date-reached : goal.returns-then-date-reached
returns-then-date-reached c = (
  λ e. absurd (true≢false (sym e)),
  λ h. absurd (fallen_in (λ (o : Order). o.date) (λ o. not (has_due o)) c.args.orders.now c.args.last
      c.loop-order.reached c.loop-order.order-index c.date_after-date.result c.order-item.result c.loop-order.invariant
      c.loop-order-test.true c.order-item.is c.date_after-date.ensures c.if-date-reached.true h),
)

pub returns : goal.returns
returns c = risen_all_in (λ (o : Order). o.date) (λ o. not (has_due o)) c.args.orders.now c.args.last
    c.loop-order.reached c.loop-order.order-index c.loop-order-test.false c.loop-order.invariant
