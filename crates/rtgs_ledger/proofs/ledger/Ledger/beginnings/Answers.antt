use Rattle.std.proofs.Common.{◌∙◌, ap, slice_index}
use Rattle.std.proofs.lemmas.List.{drop_all}
use Rattle.rtgs_ledger.specs.Choosing.{taken_from}
use Rattle.rtgs_records.specs.Held.{Held}
use Rattle.rtgs_ledger.proofs.Inputs.{all_done}
use Rattle.rtgs_ledger.proofs.ledger.Ledger.beginnings.Goals as goal

pub returns : goal.returns
returns c =
    let lengths = slice_index c.args.lengths.now in
    let queued = c.args.self.now.core.waiting in
    all_done c.loop-index.orders.items _ _ (ap (taken_from lengths queued c.loop-index.index)
    (drop_all c.loop-index.index c.as_slice-account-items.result.now c.loop-index-test.false)) c.loop-index.invariant
    ∙ ap (taken_from lengths queued 0) (c.as_slice-account-items.ensures.value
    ∙ ap (λ (h : Held). h.core.accounts) c.self.view_is)
