use Rattle.std.proofs.Common.{◌≡◌, ◌<◌, ◌∙◌, true, sym, subst, ap}
use Rattle.std.specs.List.{AllByRecursion}
use Rattle.rtgs_book.specs.declared.order.Order.{Order}
use Rattle.rtgs_book.specs.Books.{is_queued_state, is_held_state}
use Rattle.rtgs_records.specs.queues.Orders.{AreRising, AreWaiting, numbers_among}
use Rattle.rtgs_records.proofs.queues.orders.Orders.copy.Goals as goal

pub invariant_of-result : goal.invariant_of-result
invariant_of-result c =
    let same = c.in_ok-orders.ensures.items ∙ c.as_slice.ensures.value in
    let tidy : c.self.inside.tidy ≡ true = (λ i. (c.self.view_is i).tidy) ∙ c.requires in
    record {
      rising = subst AreRising (sym same) c.self.invariant.rising;
      before = subst (AllByRecursion (λ (o : Order). o.number < c.self.inside.next)) (sym same)
          c.self.invariant.before;
      queued = λ sender. c.in_ok-queued.ensures.queued sender ∙ ap
          (λ orders. numbers_among is_queued_state orders sender)
          c.as_slice-2.ensures.value;
      held = λ sender. c.in_ok-queued.ensures.held sender ∙ ap (λ orders. numbers_among is_held_state orders sender)
          c.as_slice-2.ensures.value;
      roomy = c.in_ok-queued.ensures.roomy;
      ready = λ name e. absurd (cc);
      waiting = λ _. subst AreWaiting (sym same) (c.self.invariant.waiting tidy);
    }
