use Rattle.std.proofs.Common.{◌∙◌, ap, filter}
use Rattle.rtgs_book.specs.Books.{is_waiting}
use Rattle.rtgs_records.proofs.queues.OrderLemmas.{kept_swept, waiting_twice}
use Rattle.rtgs_records.proofs.queues.orders.Orders.sweep.Goals as goal

pub invariant_of-self : goal.invariant_of-self
invariant_of-self c = rw c.keep_waiting.ensures (kept_swept c.self.inside.orders.items c.self.inside.queues
    c.self.inside.held c.self.inside.next c.self.inside.awaited c.self.inside.holds c.self.inside.tidy
    c.self.invariant)

pub returns-then-not-self-clause-orders : goal.returns-then-not-self-clause-orders
returns-then-not-self-clause-orders c = ap (filter is_waiting) c.keep_waiting.ensures
    ∙ waiting_twice c.self.inside.orders.items
    ∙ (λ i. (c.self.view_is i).orders)
