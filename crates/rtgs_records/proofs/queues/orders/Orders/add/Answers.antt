use Rattle.std.proofs.Common.{◌≡◌, ◌∙◌, sym, true, false, arith}
use Rattle.rtgs_book.specs.Books.{is_queued, is_held}
use Rattle.rtgs_records.proofs.queues.OrderLemmas.{kept_push, kept_hold, kept_counted, held_waits, queued_waits}
use Rattle.rtgs_records.proofs.queues.OrderLemmas.{held_is_not_queued}
use Rattle.rtgs_records.proofs.queues.orders.Orders.add.Goals as goal

pub invariant_of-self : goal.invariant_of-self
invariant_of-self c =
    let is : is_held c.args.order ≡ true = sym c.is_held.ensures ∙ c.if-is_held.true in
    let waits = held_waits c.args.order.state is in
    rw c.push_reserved.ensures.items (kept_hold c.self.inside.orders.items c.self.inside.queues c.self.inside.held
    c.self.inside.next c.self.inside.awaited c.self.inside.holds c.self.inside.tidy c.self.invariant c.args.order
    (c.requires.number ∙ sym (λ i. (c.self.view_is i).next)) waits
    ((λ i. (c.self.view_is i).awaited) ∙ c.requires.awaited.awaited waits) c.push.new.self
    (held_is_not_queued c.args.order.state is) is c.push.ensures.queues)

pub invariant_of-self-else-is_queued : goal.invariant_of-self-else-is_queued
invariant_of-self-else-is_queued c = kept_counted c.self.inside.orders.items c.self.inside.queues c.self.inside.held
    c.self.inside.next c.self.inside.awaited c.self.inside.holds c.self.inside.tidy c.self.invariant

pub invariant_of-self-then-is_queued : goal.invariant_of-self-then-is_queued
invariant_of-self-then-is_queued c =
    let out : is_held c.args.order ≡ false = sym c.is_held.ensures ∙ c.if-is_held.false in
    let is : is_queued c.args.order ≡ true = sym c.is_queued.ensures ∙ c.if-is_queued.true in
    let waits = queued_waits c.args.order.state is in
    rw c.push_reserved-then-is_queued.ensures.items (kept_push c.self.inside.orders.items c.self.inside.queues
    c.self.inside.held c.self.inside.next c.self.inside.awaited c.self.inside.holds c.self.inside.tidy c.self.invariant
    c.args.order (c.requires.number ∙ sym (λ i. (c.self.view_is i).next)) waits
    ((λ i. (c.self.view_is i).awaited) ∙ c.requires.awaited.awaited waits) c.push-then-is_queued.new.self is out
    c.push-then-is_queued.ensures.queues (λ sender. let same = c.push-then-is_queued.ensures.room sender in omega
    arith))
