use Rattle.std.proofs.Common.{◌≡◌, Ok, Err, ap, ◌∙◌, subst, sym}
use Rattle.rtgs_book.specs.Outcome.{Reply}
use Rattle.rtgs_book.specs.declared.refusal.Refusal.TheVariants.{OutOfMemory}
use Rattle.rtgs_http_bodies.specs.Refusals.{refused_message}
use Rattle.rtgs_http_server.specs.exchange.ReplyMessages.{IsSentOrLost, reply_message}
use Rattle.rtgs_http_server.proofs.exchange.commands.tell.Goals as goal

pub returns-in-Ok-clause-sent_or_lost : goal.returns-in-Ok-clause-sent_or_lost
returns-in-Ok-clause-sent_or_lost c =
    subst (λ (r : Reply). IsSentOrLost (reply_message r) c.or_lost.result) (sym c.in-Ok.is)
    (c.or_lost.ensures.sent_or_lost (reply_message (Ok c.in-Ok.answer)) c.answer_reply.ensures)

pub returns-in-Err-clause-sent_or_lost : goal.returns-in-Err-clause-sent_or_lost
returns-in-Err-clause-sent_or_lost c =
    subst (λ (r : Reply). IsSentOrLost (reply_message r) c.or_lost-in-Err.result) (sym c.in-Err.is)
    (c.or_lost-in-Err.ensures.sent_or_lost (reply_message (Err c.in-Err.refusal)) c.refusal_reply.ensures.replied)

pub returns-in-Err-clause-refused : goal.returns-in-Err-clause-refused
returns-in-Err-clause-refused c e =
    let is = c.in-Err.is in
    let same : c.in-Err.refusal ≡ OutOfMemory = cc in
    c.or_lost-in-Err.ensures.made (refused_message c.in-Err.refusal) c.refusal_reply.ensures.replied
    (c.refusal_reply.ensures.no_memory same) ∙ ap refused_message same
