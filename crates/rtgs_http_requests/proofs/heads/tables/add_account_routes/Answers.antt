use Rattle.std.proofs.Common.{refl, ◌∙◌}
use Rattle.rtgs_http_requests.proofs.heads.tables.add_account_routes.Goals as goal

pub returns : goal.returns
returns c =
    c.in_ok-add_operator-2.ensures ∙ rw (c.in_ok-add_operator.ensures) refl
