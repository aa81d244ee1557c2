use Rattle.std.proofs.Common.{◌∙◌, ap}
use Rattle.rtgs_desk.specs.Readings.{held_answer}
use Rattle.rtgs_http_server.specs.exchange.ReplyMessages.{held_message}
use Rattle.rtgs_http_server.proofs.exchange.ReadingReplies.{refused_said, value_said}
use Rattle.rtgs_http_server.proofs.exchange.readings.read_held.Goals as goal

pub returns-in-Err : goal.returns-in-Err
returns-in-Err g c book held =
    refused_said (λ orders. orders.items)
    (held_answer book c.args.code.now) c.in-Err.refusal held_message c.refused.result
    (c.in-Err.ensures.answered book held)
    c.refused.ensures

pub returns-in-Ok-held_reply : goal.returns-in-Ok-held_reply
returns-in-Ok-held_reply g c book held =
    value_said (λ orders. orders.items)
    (held_answer book c.args.code.now) c.in-Ok.orders held_message c.in-Ok-held_reply.reply
    (c.in-Ok.ensures.answered book held)
    (c.in-Ok-held_reply.ensures ∙ ap held_message c.deref.ensures.value)
