use Rattle.std.proofs.Common.{refl, ◌∙◌}
use Rattle.rtgs_http_requests.proofs.heads.tables.add_order_routes.Goals as goal

pub returns : goal.returns
returns c =
    c.in_ok-add_bank-3.ensures ∙ rw (c.in_ok-add_bank-2.ensures, c.in_ok-add_bank.ensures) refl
