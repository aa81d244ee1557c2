use Rattle.std.proofs.Common.{◌∙◌, sym}
use Rattle.rtgs_records.proofs.queues.OrderLemmas.{all_stay}
use Rattle.rtgs_records.proofs.queues.orders.Orders.as_slice.Goals as goal

pub returns : goal.returns
returns c = c.as_slice.ensures.value
    ∙ sym (all_stay c.self.inside.orders.items (c.self.invariant.waiting ((λ i. (c.self.view_is i).tidy) ∙ c.requires)))
    ∙ (λ i. (c.self.view_is i).orders)
