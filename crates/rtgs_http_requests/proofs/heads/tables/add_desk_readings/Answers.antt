use Rattle.std.proofs.Common.{refl, ◌∙◌}
use Rattle.rtgs_http_requests.proofs.heads.tables.add_desk_readings.Goals as goal

pub returns : goal.returns
returns c =
    c.in_ok-add_operator-6.ensures
    ∙ rw (
      c.in_ok-add_operator-5.ensures,
      c.in_ok-add_operator-4.ensures,
      c.in_ok-add_operator-3.ensures,
      c.in_ok-add_operator-2.ensures,
      c.in_ok-add_operator.ensures,
    ) refl
