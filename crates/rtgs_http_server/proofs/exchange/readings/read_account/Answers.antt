use Rattle.rtgs_desk.specs.Readings.{account_answer}
use Rattle.rtgs_http_server.specs.exchange.ReplyMessages.{account_message}
use Rattle.rtgs_http_server.proofs.exchange.ReadingReplies.{refused_said, value_said, is_answered}
use Rattle.rtgs_http_server.proofs.exchange.readings.read_account.Goals as goal

pub returns-in-Err : goal.returns-in-Err
returns-in-Err g c book held =
    refused_said (λ account. account) (account_answer book c.args.code.now) c.in-Err.refusal account_message
    c.refused.result (c.in-Err.ensures.answered book held) c.refused.ensures

pub returns-in-Ok-account_reply : goal.returns-in-Ok-account_reply
returns-in-Ok-account_reply g c book held =
    let answered = c.in-Ok.ensures.answered book held in
    let sound = (c.holds_a_sound_book.ensures.sound book held).sound in
    let ranges = (c.holds_a_sound_book.ensures.sound book held).in_range in
    let is = is_answered (λ account. account) (account_answer book c.args.code.now) c.in-Ok.account answered in
    let fits = c.queued_values_fit.ensures book c.args.code.now c.in-Ok.account sound ranges is in
    value_said (λ account. account) (account_answer book c.args.code.now) c.in-Ok.account account_message
    c.in-Ok-account_reply.reply answered (c.in-Ok-account_reply.ensures fits)
