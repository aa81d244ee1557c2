use Rattle.std.proofs.Common.{◌≡◌, ◌∙◌, ap, inl, sym, subst}
use Rattle.rtgs_book.specs.declared.status.Status.{Status}
use Rattle.rtgs_desk.specs.Readings.{status_of}
use Rattle.rtgs_http_bodies.specs.desks.Status.{StatusFits}
use Rattle.rtgs_http_server.specs.exchange.ReplyMessages.{status_message}
use Rattle.rtgs_http_server.proofs.exchange.readings.read_status.Goals as goal

pub returns-in-Ok-status_reply : goal.returns-in-Ok-status_reply
returns-in-Ok-status_reply g c book held =
    let answered = c.in-Ok.ensures.answered book held in
    let is : c.in-Ok.status ≡ status_of book = cc in
    let sound = (c.holds_a_sound_book.ensures.sound book held).sound in
    let ranges = (c.holds_a_sound_book.ensures.sound book held).in_range in
    let fits = subst StatusFits (sym is) (c.status_values_fit.ensures book sound ranges) in
    inl (c.in-Ok-status_reply.ensures fits ∙ ap status_message is)
