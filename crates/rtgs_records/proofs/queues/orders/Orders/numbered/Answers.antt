use Rattle.std.proofs.Common.{◌≡◌, ◌∙◌, sym, ap, subst, cond, get_or, find, Some, None, true, false}
use Rattle.std.specs.List.{AllByRecursion}
use Rattle.rtgs_book.specs.declared.order.Order.{Order}
use Rattle.rtgs_book.specs.Books.{is_waiting}
use Rattle.rtgs_book.specs.Commands.{has_number}
use Rattle.rtgs_records.specs.queues.Orders.{HasNumberAt}
use Rattle.rtgs_records.proofs.queues.OrderLemmas.{found_waiting, found_nowhere}
use Rattle.rtgs_records.proofs.queues.orders.Orders.numbered.Goals as goal

pub returns-in_default : goal.returns-in_default
returns-in_default c =
    let absent = subst (AllByRecursion (λ (o : Order). has_number c.args.number o ≡ false)) c.as_slice.ensures.value
    c.in_default.ensures.absent in
    sym (found_nowhere c.args.number c.self.inside.orders.items absent)
    ∙ ap (find (has_number c.args.number)) (λ i. (c.self.view_is i).orders)

pub returns-then-is_waiting : goal.returns-then-is_waiting
returns-then-is_waiting c =
    let orders = c.self.inside.orders.items in
    let o = c.index-order.result.now in
    let there = subst (λ os. HasNumberAt c.args.number os c.in-Ok.at) c.as_slice.ensures.value c.in-Ok.ensures.found in
    let is : o ≡ get_or orders c.in-Ok.at o = c.index-order.ensures in
    let queued : is_waiting (get_or orders c.in-Ok.at o) ≡ true = ap is_waiting (sym is) ∙ sym c.is_waiting.ensures
    ∙ c.if-is_waiting.true in
    ap Some is ∙ sym (found_waiting c.args.number orders c.self.invariant.rising c.in-Ok.at there o
    ∙ ap (λ b. cond b (Some (get_or orders c.in-Ok.at o)) None) queued)
    ∙ ap (find (has_number c.args.number)) (λ i. (c.self.view_is i).orders)

pub returns-else-is_waiting : goal.returns-else-is_waiting
returns-else-is_waiting c =
    let orders = c.self.inside.orders.items in
    let o = c.index-order.result.now in
    let there = subst (λ os. HasNumberAt c.args.number os c.in-Ok.at) c.as_slice.ensures.value c.in-Ok.ensures.found in
    let is : o ≡ get_or orders c.in-Ok.at o = c.index-order.ensures in
    let queued : is_waiting (get_or orders c.in-Ok.at o) ≡ false = ap is_waiting (sym is) ∙ sym c.is_waiting.ensures
    ∙ c.if-is_waiting.false in
    sym (found_waiting c.args.number orders c.self.invariant.rising c.in-Ok.at there o
    ∙ ap (λ b. cond b (Some (get_or orders c.in-Ok.at o)) None) queued)
    ∙ ap (find (has_number c.args.number)) (λ i. (c.self.view_is i).orders)
