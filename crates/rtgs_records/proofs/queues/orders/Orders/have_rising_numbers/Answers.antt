use Rattle.std.proofs.Common.{subst}
use Rattle.rtgs_book.specs.Books.{is_waiting}
use Rattle.rtgs_records.specs.queues.Orders.{AreRising}
use Rattle.rtgs_records.proofs.queues.OrderLemmas.{rising_filter}
use Rattle.rtgs_records.proofs.queues.orders.Orders.have_rising_numbers.Goals as goal

pub returns : goal.returns
returns c = subst AreRising (λ i. (c.self.view_is i).orders)
    (rising_filter is_waiting c.self.inside.orders.items c.self.invariant.rising)
