use Rattle.std.proofs.Common.{refl, ◌∙◌}
use Rattle.rtgs_http_requests.proofs.heads.tables.read_routes.Goals as goal

pub returns : goal.returns
returns c =
    c.in_ok-add_bank_readings.ensures
    ∙ rw (c.in_ok-add_desk_readings.ensures, c.in_ok-add_readings_of_banks.ensures, c.new-router.ensures) refl
