use Rattle.std.proofs.Common.{◌≡◌, ◌∙◌, ap, Ok}
use Rattle.std.specs.Result.{result_ok}
use Rattle.rtgs_money.specs.Date.{date_text}
use Rattle.rtgs_sql_columns.proofs.fields.date.Goals as goal

pub returns-clause-found : goal.returns-clause-found
returns-clause-found c date is low here =
    let bytes : c.in_ok-text.field-0.now ≡ date_text date = c.in_ok-text.ensures.found (date_text date) low here in
    let found : c.read.result ≡ Ok date = c.read.ensures.found date is bytes in
    c.ok.ensures.value ∙ ap result_ok found
