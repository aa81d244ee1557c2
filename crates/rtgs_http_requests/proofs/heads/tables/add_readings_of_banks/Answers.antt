use Rattle.std.proofs.Common.{refl, ◌∙◌}
use Rattle.rtgs_http_requests.proofs.heads.tables.add_readings_of_banks.Goals as goal

pub returns : goal.returns
returns c =
    c.in_ok-add_for_bank-4.ensures
    ∙ rw (
      c.in_ok-add_for_bank-3.ensures,
      c.in_ok-add_for_bank-2.ensures,
      c.in_ok-add_for_bank.ensures,
    ) refl
