use Rattle.std.proofs.Common.{◌∙◌, ap}
use Rattle.rtgs_ledger.specs.Choosing.{payment_in}
use Rattle.rtgs_records.specs.Held.{Held}
use Rattle.rtgs_ledger.proofs.ledger.Ledger.payment_of.Goals as goal

pub returns : goal.returns
returns c = (λ i. record { receiver = c.index_of.ensures i; amount = c.cents.ensures.value i })
    ∙ ap (λ (h : Held). payment_in h.core c.args.order.now) c.self.view_is
