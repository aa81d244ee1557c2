use Rattle.std.proofs.Common.{true≢false, refl, sym, ◌∙◌}
use Rattle.rtgs_book.specs.declared.order.Order.{Order}
use Rattle.rtgs_book.specs.Soundness.{HasMark}
use Rattle.rtgs_soundness.proofs.Totals.{all_more, all_of_take}
use Rattle.rtgs_soundness.proofs.rules.marks.have_marks.Goals as goal
use Rattle.rtgs_lists.proofs.Lists.{all_get}

pub loop-order-preserved : goal.loop-order-preserved
loop-order-preserved c = all_more (λ (o : Order). HasMark c.args.marks.now o.date o.state) c.args.orders.now
    c.loop-order.order-index c.order-item.result c.loop-order-test.true c.order-item.is c.loop-order.invariant
    (c.has_mark.ensures.0 c.if-not-has_mark.false)

pub returns-then-not-has_mark : goal.returns-then-not-has_mark
returns-then-not-has_mark c = (
  λ e. absurd (true≢false (sym e)),
  λ all. absurd (true≢false (sym (c.has_mark.ensures.1 (all_get (λ (o : Order). HasMark c.args.marks.now o.date o.state)
      c.args.orders.now c.loop-order.order-index c.order-item.result c.loop-order-test.true c.order-item.is all))
      ∙ c.if-not-has_mark.true)),
)

pub returns : goal.returns
returns c = (
  λ e. all_of_take (λ (o : Order). HasMark c.args.marks.now o.date o.state) c.args.orders.now c.loop-order.order-index
      c.loop-order-test.false c.loop-order.invariant,
  λ all. refl,
)
