use Rattle.std.proofs.Common.{◌∙◌}
use Rattle.std.proofs.lemmas.Result.{IfOk-weaker}
use Rattle.rtgs_http_bodies.proofs.Dated.{is_undated, is_dated}
use Rattle.rtgs_http_bodies.proofs.order.order_value.Goals as goal

pub returns-in-Some : goal.returns-in-Some
returns-in-Some c =
    let gained = is_dated c.args.order.now c.in-Some.due c.in-Some.is in
    IfOk-weaker c.with_due.result _ _ (λ dated h. h ∙ gained.2)
    (c.with_due.ensures gained.0 (c.in_ok-value.ensures ∙ gained.1))

pub returns-in-None : goal.returns-in-None
returns-in-None c = c.in_ok-value.ensures ∙ is_undated c.args.order.now c.in-None.is
