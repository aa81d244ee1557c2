use Rattle.std.proofs.Common.{◌∙◌, sym, subst, ap}
use Rattle.std.specs.Int.{w64}
use Rattle.std.specs.Prelude.{FitsSigned}
use Rattle.std.proofs.lemmas.Int.{to_z-of_z}
use Rattle.std.proofs.lemmas.Result.{IfOk-weaker}
use Rattle.serde_json.specs.Written.{compact_text}
use Rattle.rtgs_http_bodies.specs.desks.Accounts.{account_with}
use Rattle.rtgs_http_bodies.proofs.desks.NoFloat.{account_has_no_float}
use Rattle.rtgs_http_bodies.proofs.desks.account.account_text.Goals as goal

pub returns : goal.returns
returns c fits =
    let same = c.queued_in_64_bits-queued_value.ensures fits in
    let same_value = to_z-of_z w64 c.queued_in_64_bits-queued_value.result (subst (FitsSigned w64) (sym same) fits)
    ∙ same in
    let value = c.in_ok-value.ensures ∙ ap (λ v. account_with v c.args.reading.now) same_value in
    IfOk-weaker c.to_vec.result _ _
    (λ text h. h (rw value (account_has_no_float c.args.reading.now.queued_value c.args.reading.now))
    ∙ ap compact_text value)
    c.to_vec.ensures.text
