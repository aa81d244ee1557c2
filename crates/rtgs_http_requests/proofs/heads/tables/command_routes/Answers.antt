use Rattle.std.proofs.Common.{refl, ◌∙◌}
use Rattle.rtgs_http_requests.proofs.heads.tables.command_routes.Goals as goal

pub returns : goal.returns
returns c =
    c.in_ok-add_order_routes.ensures
    ∙ rw (
      c.in_ok-add_account_routes.ensures,
      c.in_ok-add_day_routes.ensures,
      c.in_ok-add_orders_of_banks.ensures,
      c.new-router.ensures,
    ) refl
