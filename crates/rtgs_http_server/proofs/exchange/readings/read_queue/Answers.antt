use Rattle.std.proofs.Common.{◌∙◌, ap}
use Rattle.rtgs_desk.specs.Readings.{queue_answer}
use Rattle.rtgs_http_server.specs.exchange.ReplyMessages.{queue_message}
use Rattle.rtgs_http_server.proofs.exchange.ReadingReplies.{refused_said, value_said}
use Rattle.rtgs_http_server.proofs.exchange.readings.read_queue.Goals as goal

pub returns-in-Err : goal.returns-in-Err
returns-in-Err g c book held =
    refused_said (λ orders. orders.items)
    (queue_answer book c.args.code.now) c.in-Err.refusal queue_message c.refused.result
    (c.in-Err.ensures.answered book held)
    c.refused.ensures

pub returns-in-Ok-queue_reply : goal.returns-in-Ok-queue_reply
returns-in-Ok-queue_reply g c book held =
    value_said (λ orders. orders.items)
    (queue_answer book c.args.code.now) c.in-Ok.orders queue_message c.in-Ok-queue_reply.reply
    (c.in-Ok.ensures.answered book held)
    (c.in-Ok-queue_reply.ensures ∙ ap queue_message c.deref.ensures.value)
