use Rattle.rtgs_desk.specs.Readings.{waiting_answer}
use Rattle.rtgs_http_server.specs.exchange.ReplyMessages.{waiting_message}
use Rattle.rtgs_http_server.proofs.exchange.ReadingReplies.{refused_said, value_said, is_answered}
use Rattle.rtgs_http_server.proofs.exchange.readings.read_waiting.Goals as goal

pub returns-in-Err : goal.returns-in-Err
returns-in-Err g c book held =
    refused_said (λ reading. reading) (waiting_answer book c.args.code.now) c.in-Err.refusal waiting_message
    c.refused.result (c.in-Err.ensures.answered book held) c.refused.ensures

pub returns-in-Ok-waiting_reply : goal.returns-in-Ok-waiting_reply
returns-in-Ok-waiting_reply g c book held =
    let answered = c.in-Ok.ensures.answered book held in
    let sound = (c.holds_a_sound_book.ensures.sound book held).sound in
    let ranges = (c.holds_a_sound_book.ensures.sound book held).in_range in
    let is = is_answered (λ reading. reading) (waiting_answer book c.args.code.now) c.in-Ok.reading answered in
    let fits = c.waiting_values_fit.ensures book c.args.code.now c.in-Ok.reading sound ranges is in
    value_said (λ reading. reading) (waiting_answer book c.args.code.now) c.in-Ok.reading waiting_message
    c.in-Ok-waiting_reply.reply answered (c.in-Ok-waiting_reply.ensures fits)
