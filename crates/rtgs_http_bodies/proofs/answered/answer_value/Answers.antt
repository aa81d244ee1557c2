use Rattle.std.proofs.Common.{◌∙◌}
use Rattle.std.proofs.lemmas.Result.{IfOk-weaker}
use Rattle.rtgs_http_bodies.proofs.Auto.{is_alone, is_joined}
use Rattle.rtgs_http_bodies.proofs.answered.answer_value.Goals as goal

pub returns-in-Some : goal.returns-in-Some
returns-in-Some c =
    let joined = is_joined c.args.answer c.in-Some.auto c.in-Some.is in
    IfOk-weaker c.with_auto.result _ _ (λ whole h. h ∙ joined.2)
    (c.with_auto.ensures joined.0 (c.in_ok-value.ensures ∙ joined.1))

pub returns-in-None : goal.returns-in-None
returns-in-None c = c.in_ok-value.ensures ∙ is_alone c.args.answer c.in-None.is
