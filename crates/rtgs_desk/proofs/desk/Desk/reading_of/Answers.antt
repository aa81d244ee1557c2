use Rattle.std.proofs.Common.{◌≡◌, ◌∙◌, length, pos, ap, rules}
use Rattle.rtgs_book.specs.Queue.{queue}
use Rattle.rtgs_desk.specs.Readings.{value_of}
use Rattle.rtgs_desk.proofs.HoldingLemmas.{core_remembered, day_inside}
use Rattle.rtgs_desk.proofs.desk.Desk.reading_of.Goals as goal

pub returns : goal.returns
returns g c book memory balanced =
    let core = core_remembered c.self.inside.keeper c.self.inside.ledger.core c.args.self.now book c.self.view_is memory
    in
    let code = c.args.account.now.participant.code in
    let day : c.day.result ≡ book.day = c.day.ensures ∙ day_inside book c.self.inside.ledger.core core in
    let items : c.in_ok-queue.queue.items ≡ queue book code = c.in_ok-queue.ensures.answered book core in
    let queued : c.len.result ≡ length c.in_ok-queue.queue.items = search rules in
    let value : c.value_of.result ≡ pos (value_of c.in_ok-queue.queue.items) = search rules in
    λ j. record {
      participant = c.args.account.now.participant;
      balance = balanced j;
      day = day j;
      queued = (queued ∙ ap length items) j;
      queued_value = (value ∙ ap (λ orders. pos (value_of orders)) items) j;
    }
