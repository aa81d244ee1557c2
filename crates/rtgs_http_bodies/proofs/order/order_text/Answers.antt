use Rattle.std.proofs.Common.{◌∙◌, ap}
use Rattle.std.proofs.lemmas.Result.{IfOk-weaker}
use Rattle.serde_json.specs.Written.{compact_text}
use Rattle.rtgs_http_bodies.proofs.NoFloat.{order_has_no_float}
use Rattle.rtgs_http_bodies.proofs.order.order_text.Goals as goal

pub returns : goal.returns
returns c = IfOk-weaker c.to_vec.result _ _
    (λ text h. h (rw c.in_ok-value.ensures (order_has_no_float c.args.order.now))
    ∙ ap compact_text c.in_ok-value.ensures)
    c.to_vec.ensures.text
