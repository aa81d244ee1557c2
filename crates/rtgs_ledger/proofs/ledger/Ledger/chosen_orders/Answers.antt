use Rattle.std.proofs.Common.{◌∙◌, ap, refl, slice_index, ℕ, List}
use Rattle.rtgs_ledger.specs.Choosing.{taken_from}
use Rattle.rtgs_ledger.proofs.Inputs.{greatest_taken, records_of}
use Rattle.rtgs_ledger.proofs.ledger.Ledger.chosen_orders.Goals as goal

pub returns : goal.returns
returns c book is =
    let core = c.args.self.now.core in
    greatest_taken book (records_of c.args.self.now) c.args.self.now refl is c.queues_are_of_the_waiting.ensures
    (slice_index c.in_ok-lengths.lengths.items)
    c.choices_agree.ensures.lengths (c.in_ok-lengths.ensures.greatest book is) c.in_ok-orders.orders.items
    (c.in_ok-orders.ensures
    ∙ ap (λ (lengths : List ℕ). taken_from (slice_index lengths) core.waiting 0 core.accounts) c.as_slice.ensures.value)
