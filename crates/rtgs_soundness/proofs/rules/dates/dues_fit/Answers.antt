use Rattle.std.proofs.Common.{sym, ◌∙◌, true≢false, refl}
use Rattle.rtgs_book.specs.declared.order.Order.{Order}
use Rattle.rtgs_book.specs.Soundness.{FitsDue}
use Rattle.rtgs_lists.proofs.Lists.{all_get}
use Rattle.rtgs_soundness.proofs.Totals.{all_more, all_of_take}
use Rattle.rtgs_soundness.proofs.rules.dates.dues_fit.Goals as goal

pub loop-order-preserved : goal.loop-order-preserved
loop-order-preserved c = all_more (λ (o : Order). FitsDue c.args.today o.due o.date o.state) c.args.orders.now
    c.loop-order.order-index c.order-item.result c.loop-order-test.true c.order-item.is c.loop-order.invariant
    (c.fits_due.ensures.0 c.if-not-fits_due.false)

pub returns-then-not-fits_due : goal.returns-then-not-fits_due
returns-then-not-fits_due c = (
  λ e. absurd (true≢false (sym e)),
  λ all. absurd (true≢false (sym (c.fits_due.ensures.1
      (all_get (λ (o : Order). FitsDue c.args.today o.due o.date o.state) c.args.orders.now c.loop-order.order-index
      c.order-item.result c.loop-order-test.true c.order-item.is all)) ∙ c.if-not-fits_due.true)),
)

pub returns : goal.returns
returns c = (
  λ e. all_of_take (λ (o : Order). FitsDue c.args.today o.due o.date o.state) c.args.orders.now
      c.loop-order.order-index c.loop-order-test.false c.loop-order.invariant,
  λ all. refl,
)
