use Rattle.std.proofs.Common.{◌∙◌, ap}
use Rattle.std.proofs.lemmas.Result.{IfOk-weaker}
use Rattle.serde_json.specs.Written.{compact_text}
use Rattle.rtgs_http_bodies.proofs.desks.NoFloat.{held_has_no_float}
use Rattle.rtgs_http_bodies.proofs.desks.waiting.held_text.Goals as goal

pub returns : goal.returns
returns c = IfOk-weaker c.to_vec.result _ _
    (λ text h. h (rw c.in_ok-value.ensures (held_has_no_float c.args.orders.now))
    ∙ ap compact_text c.in_ok-value.ensures)
    c.to_vec.ensures.text
