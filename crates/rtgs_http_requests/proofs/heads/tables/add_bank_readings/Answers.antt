use Rattle.std.proofs.Common.{refl, ◌∙◌}
use Rattle.rtgs_http_requests.proofs.heads.tables.add_bank_readings.Goals as goal

pub returns : goal.returns
returns c =
    c.in_ok-add_bank-6.ensures
    ∙ rw (
      c.in_ok-add_bank-5.ensures,
      c.in_ok-add_bank-4.ensures,
      c.in_ok-add_bank-3.ensures,
      c.in_ok-add_bank-2.ensures,
      c.in_ok-add_bank.ensures,
    ) refl
