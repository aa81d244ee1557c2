use Rattle.std.proofs.Common.{Ok, Err, inr}
use Rattle.rtgs_desk.specs.Readings.{order_answer}
use Rattle.rtgs_http_server.specs.exchange.ReplyMessages.{result_message, order_message}
use Rattle.rtgs_http_server.proofs.exchange.Finding.{found_said, refused_found, stood_still}
use Rattle.rtgs_http_server.proofs.exchange.ReadingReplies.{refused_read, answered_read}
use Rattle.rtgs_http_server.proofs.exchange.readings.read_order.Goals as goal

pub returns-in-Err-clause-reads : goal.returns-in-Err-clause-reads
returns-in-Err-clause-reads g c honest book held =
    let answered = order_answer book c.args.code.now c.args.reference.now in (
      stood_still g.K.Keeper book c.order_of.new.self (Err c.in-Err.refusal) (c.in-Err.ensures.kept honest book held)
          (c.in-Err.ensures.left honest book held).after_a_crash
          (c.in-Err.ensures.left honest book held).whole_after_a_crash (λ e. (c.in-Err.ensures.faults.fault e).1),
      refused_read g.K.Keeper c.args.desk.now c.order_of.new.self c.refused.result
          (c.holds_a_sound_book.ensures.works book held) (result_message order_message answered) c.in-Err.refusal
          c.in-Err.ensures.faults.fault c.in-Err.ensures.faults.only_fault
          (refused_found answered c.in-Err.refusal c.refused.result (c.in-Err.ensures.answered honest book held)
          c.refused.ensures) c.refused.ensures,
    )

pub returns-in-Err-order_reply-clause-reads : goal.returns-in-Err-order_reply-clause-reads
returns-in-Err-order_reply-clause-reads g c honest book held =
    let answered = order_answer book c.args.code.now c.args.reference.now in (
      stood_still g.K.Keeper book c.order_of.new.self (Ok c.in-Ok.order) (c.in-Ok.ensures.kept honest book held)
          (c.in-Ok.ensures.left honest book held).after_a_crash
          (c.in-Ok.ensures.left honest book held).whole_after_a_crash (λ e. (c.in-Ok.ensures.faults.fault e).1),
      answered_read g.K.Keeper c.args.desk.now c.order_of.new.self c.out_of_memory.result
          (c.holds_a_sound_book.ensures.works book held) (result_message order_message answered) c.in-Ok.order
          c.in-Ok.ensures.faults.only_fault (inr c.out_of_memory.ensures),
    )

pub returns-in-Ok-order_reply-clause-reads : goal.returns-in-Ok-order_reply-clause-reads
returns-in-Ok-order_reply-clause-reads g c honest book held =
    let answered = order_answer book c.args.code.now c.args.reference.now in (
      stood_still g.K.Keeper book c.order_of.new.self (Ok c.in-Ok.order) (c.in-Ok.ensures.kept honest book held)
          (c.in-Ok.ensures.left honest book held).after_a_crash
          (c.in-Ok.ensures.left honest book held).whole_after_a_crash (λ e. (c.in-Ok.ensures.faults.fault e).1),
      answered_read g.K.Keeper c.args.desk.now c.order_of.new.self c.in-Ok-order_reply.reply
          (c.holds_a_sound_book.ensures.works book held) (result_message order_message answered) c.in-Ok.order
          c.in-Ok.ensures.faults.only_fault
          (found_said answered c.in-Ok.order c.in-Ok-order_reply.reply (c.in-Ok.ensures.answered honest book held)
          c.in-Ok-order_reply.ensures),
    )
