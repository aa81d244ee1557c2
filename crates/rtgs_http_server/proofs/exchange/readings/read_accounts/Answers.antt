use Rattle.std.proofs.Common.{◌≡◌, ◌∙◌, List, Result, Ok, refl, ap, sym, subst}
use Rattle.rtgs_book.specs.declared.day.Day.{Day}
use Rattle.rtgs_book.specs.declared.refusal.Refusal.{Refusal}
use Rattle.rtgs_desk.specs.Readings.{accounts_answer}
use Rattle.rtgs_book.specs.declared.account_reading.AccountReading.{AccountReading}
use Rattle.rtgs_http_bodies.specs.desks.Accounts.{QueuedValuesFit}
use Rattle.rtgs_http_server.specs.exchange.ReplyMessages.{accounts_message}
use Rattle.rtgs_http_server.proofs.exchange.ReadingReplies.{refused_said, value_said}
use Rattle.rtgs_http_server.proofs.exchange.readings.read_accounts.Goals as goal

day_is : (one other : Day) (answered : Result Day Refusal) → answered ≡ Ok one → answered ≡ Ok other → one ≡ other
day_is one other answered first second = cc

pub returns-in-Err-accounts : goal.returns-in-Err-accounts
returns-in-Err-accounts g c book held =
    refused_said {Y = List AccountReading} (λ accounts. accounts) (accounts_answer book) c.in-Err-accounts.refusal
    (accounts_message book.day)
    c.refused-in-Err-accounts.result (c.in-Err-accounts.ensures.answered book held)
    c.refused-in-Err-accounts.ensures

pub returns-in-Ok-accounts_reply : goal.returns-in-Ok-accounts_reply
returns-in-Ok-accounts_reply g c book held =
    let answered = c.in-Ok-accounts.ensures.answered book held in
    let sound = (c.holds_a_sound_book.ensures.sound book held).sound in
    let ranges = (c.holds_a_sound_book.ensures.sound book held).in_range in
    let slice : c.deref.result.now ≡ c.in-Ok-accounts.accounts.items = c.deref.ensures.value in
    let day = day_is c.in-Ok.day book.day (Ok c.in-Ok.day) refl (c.in-Ok.ensures.answered book held) in
    let fits : QueuedValuesFit c.deref.result.now =
    subst QueuedValuesFit (sym (slice ∙ answered)) (c.all_queued_values_fit.ensures book sound ranges) in
    value_said (λ accounts. accounts.items) (accounts_answer book) c.in-Ok-accounts.accounts (accounts_message book.day)
    c.in-Ok-accounts_reply.reply answered
    (c.in-Ok-accounts_reply.ensures fits ∙ ap (λ d. accounts_message d c.deref.result.now) day
    ∙ ap (accounts_message book.day) slice)
