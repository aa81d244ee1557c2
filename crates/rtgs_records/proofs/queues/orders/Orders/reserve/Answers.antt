use Rattle.std.proofs.Common.{refl, arith}
use Rattle.rtgs_records.proofs.queues.OrderLemmas.{kept_alone}
use Rattle.rtgs_records.proofs.queues.orders.Orders.reserve.Goals as goal

pub invariant_of-self : goal.invariant_of-self
invariant_of-self c = rw c.reserve.ensures.items
    (kept_alone c.self.inside.orders.items c.self.inside.queues c.self.inside.held c.self.inside.next
    c.self.inside.awaited c.self.inside.holds c.self.inside.tidy c.self.invariant c.self.inside.queues
    c.self.inside.held (λ s. refl) (λ s. refl) (λ s. omega arith))
