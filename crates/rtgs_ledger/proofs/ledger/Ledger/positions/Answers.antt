use Rattle.std.proofs.Common.{◌∙◌, ap, map}
use Rattle.std.proofs.lemmas.List.{drop_all}
use Rattle.rtgs_ledger.specs.Choosing.{position_at, positions_in}
use Rattle.rtgs_records.specs.Held.{Held}
use Rattle.rtgs_ledger.proofs.Inputs.{all_done}
use Rattle.rtgs_ledger.proofs.ledger.Ledger.positions.Goals as goal

pub returns : goal.returns
returns c =
    let phase = c.self.inside.records.day.phase in
    all_done c.loop-account.positions _ _ (ap (map (position_at phase))
    (drop_all c.loop-account.account-index c.as_slice-account-items.result.now c.loop-account-test.false))
    c.loop-account.invariant
    ∙ ap (map (position_at phase)) c.as_slice-account-items.ensures.value
    ∙ ap (λ (h : Held). positions_in h.core) c.self.view_is
