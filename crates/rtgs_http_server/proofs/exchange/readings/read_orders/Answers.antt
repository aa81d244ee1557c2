use Rattle.std.proofs.Common.{◌∙◌, ℕ, List, ap}
use Rattle.rtgs_http_bodies.specs.desks.Written.{orders_wanted}
use Rattle.rtgs_http_server.specs.exchange.ReplyMessages.{result_message, csv_message}
use Rattle.rtgs_http_server.proofs.exchange.ReadingReplies.{refused_read, refused_text, stands_after, text_said}
use Rattle.rtgs_http_server.proofs.exchange.ReadingReplies.{answered_read}
use Rattle.rtgs_http_server.proofs.exchange.readings.read_orders.Goals as goal

pub returns-in-Err-clause-reads : goal.returns-in-Err-clause-reads
returns-in-Err-clause-reads g c honest book held =
    let wanted = orders_wanted book c.args.date in (
      stands_after g.K.Keeper _ _ book c.in-Err.ensures.leaves honest held,
      refused_read g.K.Keeper c.args.desk.now c.orders_text.new.desk c.refused.result
          (c.holds_a_sound_book.ensures.works book held) (result_message csv_message wanted) c.in-Err.refusal
          c.in-Err.ensures.faults.fault c.in-Err.ensures.faults.only_fault
          (refused_text {Y = List ℕ} (λ text. text) wanted csv_message c.refused.result _ c.in-Err.refusal
          (λ lost. let is = lost.1 in cc) (c.in-Err.ensures.answered honest book held) c.refused.ensures)
          c.refused.ensures,
    )

pub returns-in-Ok-csv_reply-clause-reads : goal.returns-in-Ok-csv_reply-clause-reads
returns-in-Ok-csv_reply-clause-reads g c honest book held =
    let wanted = orders_wanted book c.args.date in (
      stands_after g.K.Keeper _ _ book c.in-Ok.ensures.leaves honest held,
      answered_read g.K.Keeper c.args.desk.now c.orders_text.new.desk c.in-Ok-csv_reply.reply
          (c.holds_a_sound_book.ensures.works book held) (result_message csv_message wanted) c.in-Ok.text
          c.in-Ok.ensures.faults.only_fault
          (text_said (λ text. text.items) wanted csv_message c.in-Ok-csv_reply.reply _ c.in-Ok.text
          (λ lost. let is = lost.1 in cc) (c.in-Ok.ensures.answered honest book held)
          (c.in-Ok-csv_reply.ensures ∙ ap csv_message c.deref.ensures.value)),
    )
