use Rattle.std.proofs.Common.{◌∙◌, ap}
use Rattle.std.proofs.lemmas.Result.{IfOk-weaker}
use Rattle.serde_json.specs.Written.{compact_text}
use Rattle.rtgs_http_bodies.proofs.desks.QueueSums.{queues_have_no_float}
use Rattle.rtgs_http_bodies.proofs.desks.queues.queues_text.Goals as goal

pub returns : goal.returns
returns c fit =
    let value = c.in_ok-value.ensures fit in
    IfOk-weaker c.to_vec.result _ _
    (λ text h. h (rw value (queues_have_no_float c.args.day c.args.queues.now)) ∙ ap compact_text value)
    c.to_vec.ensures.text
