use Rattle.std.proofs.Common.{◌<◌, ◌≤◌, drop, length, eqb-true, eq-eqb, true≢false, refl, sym, subst, ◌∙◌, arith}
use Rattle.rtgs_book.specs.declared.order.Order.{Order}
use Rattle.rtgs_sql_loading.specs.Joining.{Takes, TakesNone}
use Rattle.rtgs_sql_loading.proofs.Joining.{begun, one_more, lacking, all_joined, left_over}
use Rattle.rtgs_sql_loading.proofs.orders.join.Goals as goal

pub loop-order-init : goal.loop-order-init
loop-order-init c = begun c.args.orders.now c.args.forwards.now

pub loop-order-preserved : goal.loop-order-preserved
loop-order-preserved c =
    let i = c.loop-order.order-index in
    let dues = c.args.forwards.now in
    let low : i < length c.loop-order.orders = omega (arith, c.loop-order-test.true, c.loop-order.auto.orders) in
    one_more c.args.orders.now dues i c.loop-order.place c.loop-order.orders c.loop-order.invariant c.order-item.result
    low c.order-item.is c.take_due.new.order c.in-Some.next c.in-Some.ensures.within
    (subst (λ (o : Order). Takes o (drop c.loop-order.place dues) c.take_due.new.order (drop c.in-Some.next dues))
    (sym c.order-item.is) c.in-Some.ensures.took) _ refl

pub returns-in-None-clause-apart : goal.returns-in-None-clause-apart
returns-in-None-clause-apart c _ =
    let i = c.loop-order.order-index in
    let dues = c.args.forwards.now in
    let low : i < length c.loop-order.orders = omega (arith, c.loop-order-test.true, c.loop-order.auto.orders) in
    lacking c.args.orders.now dues i c.loop-order.place c.loop-order.orders c.loop-order.invariant c.order-item.result
    low c.order-item.is (subst (λ (o : Order). TakesNone o (drop c.loop-order.place dues)) (sym c.order-item.is)
    (c.take_due.ensures.lacks c.in-None.is))

pub returns-clause-joined : goal.returns-clause-joined
returns-clause-joined c same =
    let end : length c.loop-order.orders ≤ c.loop-order.order-index =
    omega (arith, c.loop-order-test.false, c.loop-order.auto.orders) in
    all_joined c.args.orders.now c.args.forwards.now c.loop-order.order-index c.loop-order.place c.loop-order.orders
    c.loop-order.invariant end (eqb-true c.loop-order.place (length c.args.forwards.now) same)

pub returns-clause-apart : goal.returns-clause-apart
returns-clause-apart c other =
    let end : length c.loop-order.orders ≤ c.loop-order.order-index =
    omega (arith, c.loop-order-test.false, c.loop-order.auto.orders) in
    left_over c.args.orders.now c.args.forwards.now c.loop-order.order-index c.loop-order.place c.loop-order.orders
    c.loop-order.invariant end
    (λ same. true≢false (sym (eq-eqb c.loop-order.place (length c.args.forwards.now) same) ∙ other))
