use Rattle.std.proofs.Common.{◌≡◌, ◌∙◌, sym, subst, ap, map, filter, not, false, refl, List}
use Rattle.std.proofs.lemmas.List.{get_or_default}
use Rattle.std.proofs.Math.ListN.{set}
use Rattle.std.specs.List.{AllByRecursion}
use Rattle.rtgs_book.specs.declared.order.Order.{Order}
use Rattle.rtgs_book.specs.Books.{is_waiting}
use Rattle.rtgs_book.specs.Commands.{has_number}
use Rattle.rtgs_book.specs.Settle.{restated}
use Rattle.rtgs_records.specs.queues.Orders.{IsKept, HasNumberAt}
use Rattle.rtgs_records.proofs.queues.OrderLemmas.{kept_restated, none_altered, one_altered, waiting_rest}
use Rattle.rtgs_records.proofs.queues.orders.Orders.set_state.Goals as goal
use Rattle.rtgs_records.proofs.queues.orders.Orders.set_state.Goals.{After-self-2-1}

there : (c : After-self-2-1) → HasNumberAt c.args.number c.self.inside.orders.items c.in-Ok.at
there c = subst (λ os. HasNumberAt c.args.number os c.in-Ok.at) c.as_slice.ensures.value c.in-Ok.ensures.found

-- the list with the new order is the list restated
is_restated : (c : After-self-2-1) → set c.self.inside.orders.items c.in-Ok.at
    (record c.index.result.now { state = c.args.state }) ≡ map (restated (has_number c.args.number) c.args.state)
    c.self.inside.orders.items
is_restated c = one_altered c.args.number (λ o. record o { state = c.args.state }) (λ o. refl)
    c.self.inside.orders.items c.self.invariant.rising c.in-Ok.at
    (there c) c.index.result.now
    (λ d. c.index.ensures ∙ get_or_default c.self.inside.orders.items c.in-Ok.at c.index.result.now d
    (let t = there c in t.in_range))

pub returns-in_default-clause-orders : goal.returns-in_default-clause-orders
returns-in_default-clause-orders c =
    let absent = subst (AllByRecursion (λ (o : Order). has_number c.args.number o ≡ false)) c.as_slice.ensures.value
    c.in_default.ensures.absent in
    let orders = c.self.inside.orders.items in
    let stays = ap (filter is_waiting) (sym (none_altered c.args.number (λ o. record o { state = c.args.state }) (λ o.
    refl) orders absent))
    ∙ waiting_rest c.args.number (λ o. record o { state = c.args.state }) (λ o. refl) (λ o. c.requires) orders in
    subst (λ (os : List Order). os ≡ filter (λ o. not (has_number c.args.number o)) os) (λ i. (c.self.view_is i).orders)
    stays

pub invariant_of-self : goal.invariant_of-self
invariant_of-self c =
    subst (λ orders. IsKept orders c.remove.new.self c.remove-2.new.self c.self.inside.next c.self.inside.awaited
    c.self.inside.holds false) (sym (is_restated c))
    (kept_restated c.self.inside.orders.items c.self.inside.queues c.self.inside.held c.self.inside.next
    c.self.inside.awaited c.self.inside.holds c.self.inside.tidy c.self.invariant c.args.number c.args.state c.in-Ok.at
    c.index.result.now c.remove.new.self c.remove-2.new.self c.requires (there c)
    (λ d. c.index.ensures ∙ get_or_default c.self.inside.orders.items c.in-Ok.at c.index.result.now d
    (let t = there c in t.in_range)) c.remove.ensures.queues c.remove.ensures.room
    c.remove-2.ensures.queues c.remove-2.ensures.room)

pub returns-clause-orders : goal.returns-clause-orders
returns-clause-orders c = ap (filter is_waiting) (is_restated c)
    ∙ waiting_rest c.args.number (λ o. record o { state = c.args.state }) (λ o. refl) (λ o. c.requires)
    c.self.inside.orders.items
    ∙ ap (filter (λ (o : Order). not (has_number c.args.number o))) (λ i. (c.self.view_is i).orders)
