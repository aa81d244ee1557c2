use Rattle.std.proofs.Common.{refl, ◌∙◌}
use Rattle.rtgs_http_requests.proofs.heads.tables.add_orders_of_banks.Goals as goal

pub returns : goal.returns
returns c =
    c.in_ok-add_for_bank-2.ensures ∙ rw (c.in_ok-add_for_bank.ensures) refl
