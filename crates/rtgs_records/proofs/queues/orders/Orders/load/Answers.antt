use Rattle.std.proofs.Common.{◌<◌, ◌∙◌, sym, subst, ap, filter}
use Rattle.std.specs.List.{AllByRecursion}
use Rattle.rtgs_book.specs.declared.order.Order.{Order}
use Rattle.rtgs_book.specs.Books.{is_waiting, is_queued_state, is_held_state}
use Rattle.rtgs_records.specs.queues.Orders.{AreRising, AreWaiting, numbers_among}
use Rattle.rtgs_records.proofs.queues.OrderLemmas.{all_stay}
use Rattle.rtgs_records.proofs.queues.orders.Orders.load.Goals as goal

pub invariant_of-result : goal.invariant_of-result
invariant_of-result c = record {
  rising = subst AreRising (sym c.into_vec-orders.ensures) c.requires.rising;
  before = subst (AllByRecursion (λ (o : Order). o.number < c.args.next)) (sym c.into_vec-orders.ensures)
      c.requires.before;
  queued = λ sender. c.in_ok-queues.ensures.queued sender ∙ ap (λ orders. numbers_among is_queued_state orders sender)
      c.as_slice.ensures.value;
  held = λ sender. c.in_ok-queues.ensures.held sender ∙ ap (λ orders. numbers_among is_held_state orders sender)
      c.as_slice.ensures.value;
  roomy = c.in_ok-queues.ensures.roomy;
  ready = λ name e. absurd (cc);
  waiting = λ _. subst AreWaiting (sym c.into_vec-orders.ensures) c.requires.waiting;
}

pub returns-clause-orders : goal.returns-clause-orders
returns-clause-orders c = ap (filter is_waiting) c.into_vec-orders.ensures ∙ all_stay c.args.orders c.requires.waiting
