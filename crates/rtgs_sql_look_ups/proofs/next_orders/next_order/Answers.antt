use Rattle.std.proofs.Common.{◌==◌, sym, ◌∙◌, arith}
use Rattle.rtgs_book.specs.declared.order.Order.{Order}
use Rattle.rtgs_book.specs.cores.Nexts.{order_after}
use Rattle.rtgs_sql_look_ups.proofs.FindingLemmas.{look_then, was_clean, holds_after}
use Rattle.rtgs_sql_look_ups.proofs.SeekingLemmas.{none_past}
use Rattle.rtgs_sql_look_ups.proofs.SkippingLemmas.{found_at_once, not_found}
use Rattle.rtgs_sql_look_ups.proofs.next_orders.next_order.Goals as goal

pub returns-then-number-clause-found : goal.returns-then-number-clause-found
unfolding order_after
returns-then-number-clause-found g c clean book held = sym
    (none_past (λ (o : Order). o.number) (λ (o : Order). o.date == c.args.date) c.args.number book.orders
    (omega (arith, c.if-number.true)) (c.records_are_listed.ensures.orders book held.2.sound))

pub returns-then-eq-clause-found : goal.returns-then-eq-clause-found
unfolding order_after
returns-then-eq-clause-found g c clean book held = sym (found_at_once c.args.date c.args.number book.orders
    c.in-Ok-Some.order (sym (c.in-Ok-Some.ensures.found clean book held) ∙ c.in-Ok-Some.field-0-is)
    (sym c.eq.ensures ∙ c.if-eq.true))

pub returns-else-eq-clause-looks : goal.returns-else-eq-clause-looks
returns-else-eq-clause-looks g c = look_then g.S.Store c.args.conn.now c.order_above.new.conn c.later_order.new.conn _
    c.later_order.result c.in-Ok-Some.ensures.looks c.later_order.ensures.looks

pub returns-else-eq-clause-found : goal.returns-else-eq-clause-found
returns-else-eq-clause-found g c clean book held =
    let was = was_clean g.S.Store c.order_above.new.conn c.later_order.new.conn c.later_order.result
    c.later_order.ensures.looks clean in
    let mid = holds_after g.S.Store c.args.conn.now c.order_above.new.conn _ book c.in-Ok-Some.ensures.looks was held in
    c.later_order.ensures.found clean book mid

pub returns-in-Ok-None-clause-found : goal.returns-in-Ok-None-clause-found
unfolding order_after
returns-in-Ok-None-clause-found g c clean book held = sym (not_found c.args.date c.args.number book.orders
    (sym (c.in-Ok-None.ensures.found clean book held) ∙ c.in-Ok-None.field-0-is))
