use Rattle.std.proofs.Common.{◌≡◌, ◌∙◌, ℕ, sym, subst, ap, map, filter, get_or, true, false, refl, List}
use Rattle.std.proofs.Common.{true≢false}
use Rattle.std.proofs.lemmas.List.{get_or_default}
use Rattle.std.specs.List.{AllByRecursion}
use Rattle.rtgs_book.specs.declared.order.Order.{Order}
use Rattle.rtgs_book.specs.Books.{is_held, is_waiting, is_queued_state}
use Rattle.rtgs_book.specs.Commands.{entered, has_number, is_held_with}
use Rattle.rtgs_book.specs.Settle.{altered}
use Rattle.rtgs_records.specs.queues.Orders.{IsKept, HasNumberAt}
use Rattle.rtgs_records.specs.queues.QueueNumbers.{AreInOrder, numbers_of}
use Rattle.rtgs_records.proofs.queues.OrderLemmas.{kept_entered, kept_roomy, none_entered, numbers_rise, one_altered}
use Rattle.rtgs_records.proofs.queues.OrderLemmas.{only_one, recursion_from, waiting_entered}
use Rattle.rtgs_lists.proofs.Lists.{all_at_place, all_filter}
use Rattle.rtgs_records.proofs.queues.orders.Orders.enter.Goals as goal

-- no order in memory with the number is held, so none enters
none : (number date : ℕ) (orders : List Order)
    → AllByRecursion (λ (o : Order). has_number number o ≡ true → is_held o ≡ false) orders
    → map (altered (is_held_with number) (entered date)) (filter is_waiting orders) ≡ filter is_waiting orders
none number date orders out = none_entered number date (filter is_waiting orders) (all_at_place
    (λ (o : Order). has_number number o ≡ true → is_held o ≡ false) (filter is_waiting orders)
    (all_filter (λ (o : Order). has_number number o ≡ true → is_held o ≡ false) is_waiting orders out))

pub returns-in_default-clause-orders : goal.returns-in_default-clause-orders
returns-in_default-clause-orders c =
    let orders = c.self.inside.orders.items in
    let absent = subst (AllByRecursion (λ (o : Order). has_number c.args.number o ≡ false)) c.as_slice.ensures.value
    c.in_default.ensures.absent in
    subst (λ (os : List Order). os ≡ map (altered (is_held_with c.args.number) (entered c.args.date)) os)
    (λ i. (c.self.view_is i).orders) (sym (none c.args.number c.args.date orders (recursion_from
    (λ (o : Order). has_number c.args.number o ≡ true → is_held o ≡ false) orders (λ k d lt e. absurd (true≢false (sym e
    ∙ all_at_place (λ (o : Order). has_number c.args.number o ≡ false) orders absent k d lt))))))

pub insert-requires : goal.insert-requires
insert-requires c =
    let orders = c.self.inside.orders.items in
    let o = c.index.result.now in
    let there = subst (λ os. HasNumberAt c.args.number os c.in-Ok.at) c.as_slice.ensures.value c.in-Ok.ensures.found in
    let is : (d : Order) → o ≡ get_or orders c.in-Ok.at d = λ d. c.index.ensures
    ∙ get_or_default orders c.in-Ok.at o d there.in_range in
    let held : is_held o ≡ true = sym c.is_held.ensures ∙ c.if-is_held.true in
    kept_roomy orders c.self.inside.queues c.self.inside.held c.self.inside.next c.self.inside.awaited
    c.self.inside.holds c.self.inside.tidy c.self.invariant c.args.number c.in-Ok.at o held there is

pub invariant_of-self : goal.invariant_of-self
invariant_of-self c =
    let orders = c.self.inside.orders.items in
    let o = c.index.result.now in
    let there = subst (λ os. HasNumberAt c.args.number os c.in-Ok.at) c.as_slice.ensures.value c.in-Ok.ensures.found in
    let is : (d : Order) → o ≡ get_or orders c.in-Ok.at d = λ d. c.index.ensures
    ∙ get_or_default orders c.in-Ok.at o d there.in_range in
    let held : is_held o ≡ true = sym c.is_held.ensures ∙ c.if-is_held.true in
    let is_entered = one_altered c.args.number (entered c.args.date) (λ o. refl) orders c.self.invariant.rising
    c.in-Ok.at
    there o is in
    let rising : AreInOrder (numbers_of c.self.inside.queues o.sender) = subst AreInOrder
    (sym (c.self.invariant.queued o.sender)) (numbers_rise is_queued_state o.sender orders c.self.invariant.rising) in
    subst (λ (os : List Order). IsKept os c.insert.new.self c.remove.new.self c.self.inside.next c.self.inside.awaited
    c.self.inside.holds c.self.inside.tidy) (sym is_entered)
    (kept_entered orders c.self.inside.queues c.self.inside.held c.self.inside.next c.self.inside.awaited
    c.self.inside.holds c.self.inside.tidy c.self.invariant c.args.number c.args.date c.in-Ok.at o c.insert.new.self
    c.remove.new.self held there is (λ other. c.insert.ensures.queues other rising) c.insert.ensures.room
    c.remove.ensures.queues c.remove.ensures.room)

pub returns-then-is_held-clause-orders : goal.returns-then-is_held-clause-orders
returns-then-is_held-clause-orders c =
    let orders = c.self.inside.orders.items in
    let o = c.index.result.now in
    let there = subst (λ os. HasNumberAt c.args.number os c.in-Ok.at) c.as_slice.ensures.value c.in-Ok.ensures.found in
    let is : (d : Order) → o ≡ get_or orders c.in-Ok.at d = λ d. c.index.ensures
    ∙ get_or_default orders c.in-Ok.at o d there.in_range in
    let held : is_held o ≡ true = sym c.is_held.ensures ∙ c.if-is_held.true in
    ap (filter is_waiting) (one_altered c.args.number (entered c.args.date) (λ o. refl) orders c.self.invariant.rising
    c.in-Ok.at there o is)
    ∙ waiting_entered c.args.number c.args.date orders (λ k d lt g. ap is_held (only_one c.args.number o orders
    c.self.invariant.rising c.in-Ok.at there is k d lt g) ∙ held)
    ∙ ap (map (altered (is_held_with c.args.number) (entered c.args.date))) (λ i. (c.self.view_is i).orders)

pub returns-else-is_held-clause-orders : goal.returns-else-is_held-clause-orders
returns-else-is_held-clause-orders c =
    let orders = c.self.inside.orders.items in
    let o = c.index.result.now in
    let there = subst (λ os. HasNumberAt c.args.number os c.in-Ok.at) c.as_slice.ensures.value c.in-Ok.ensures.found in
    let is : (d : Order) → o ≡ get_or orders c.in-Ok.at d = λ d. c.index.ensures
    ∙ get_or_default orders c.in-Ok.at o d there.in_range in
    let out : is_held o ≡ false = sym c.is_held.ensures ∙ c.if-is_held.false in
    subst (λ (os : List Order). os ≡ map (altered (is_held_with c.args.number) (entered c.args.date)) os)
    (λ i. (c.self.view_is i).orders) (sym (none c.args.number c.args.date orders (recursion_from
    (λ (o : Order). has_number c.args.number o ≡ true → is_held o ≡ false) orders (λ k d lt e. ap is_held (only_one
    c.args.number o orders c.self.invariant.rising c.in-Ok.at there is k d lt e) ∙ out))))
