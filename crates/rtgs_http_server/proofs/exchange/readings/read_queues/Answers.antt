use Rattle.std.proofs.Common.{◌≡◌, ◌∙◌, List, Result, Ok, refl, ap, sym, subst}
use Rattle.rtgs_book.specs.declared.day.Day.{Day}
use Rattle.rtgs_book.specs.declared.queue_reading.QueueReading.{QueueReading}
use Rattle.rtgs_book.specs.declared.refusal.Refusal.{Refusal}
use Rattle.rtgs_desk.specs.Queues.{queues_answer}
use Rattle.rtgs_http_bodies.specs.desks.Queues.{QueuesFit}
use Rattle.rtgs_http_server.specs.exchange.ReplyMessages.{queues_message}
use Rattle.rtgs_http_server.proofs.exchange.ReadingReplies.{refused_said, value_said}
use Rattle.rtgs_http_server.proofs.exchange.readings.read_queues.Goals as goal

day_is : (one other : Day) (answered : Result Day Refusal) → answered ≡ Ok one → answered ≡ Ok other → one ≡ other
day_is one other answered first second = cc

pub returns-in-Err-queues : goal.returns-in-Err-queues
returns-in-Err-queues g c book choice held greatest =
    refused_said {Y = List QueueReading} (λ queues. queues) (queues_answer book choice) c.in-Err-queues.refusal
    (queues_message book.day)
    c.refused-in-Err-queues.result (c.in-Err-queues.ensures.answered book choice held greatest)
    c.refused-in-Err-queues.ensures

pub returns-in-Ok-queues_reply : goal.returns-in-Ok-queues_reply
returns-in-Ok-queues_reply g c book choice held greatest =
    let answered = c.in-Ok-queues.ensures.answered book choice held greatest in
    let sound = c.holds_a_sound_book.ensures.sound book held in
    let slice : c.deref.result.now ≡ c.in-Ok-queues.queues.items = c.deref.ensures.value in
    let day = day_is c.in-Ok.day book.day (Ok c.in-Ok.day) refl (c.in-Ok.ensures.answered book held) in
    let fits : QueuesFit c.deref.result.now =
    subst QueuesFit (sym (slice ∙ answered)) (c.all_queue_sums_fit.ensures book choice sound.sound sound.in_range) in
    value_said (λ queues. queues.items) (queues_answer book choice) c.in-Ok-queues.queues (queues_message book.day)
    c.in-Ok-queues_reply.reply answered
    (c.in-Ok-queues_reply.ensures fits ∙ ap (λ d. queues_message d c.deref.result.now) day
    ∙ ap (queues_message book.day) slice)
