use Rattle.std.proofs.Common.{◌≡◌, ◌∙◌, sym, ap, length, arith}
use Rattle.std.proofs.lemmas.List.{length-map, take_all}
use Rattle.std.proofs.lemmas.Result.{IfOk-weaker}
use Rattle.rtgs_book.specs.declared.order.Order.{Order}
use Rattle.rtgs_book.specs.Queue.{queued_among}
use Rattle.rtgs_records.specs.Held.{Held}
use Rattle.rtgs_ledger.proofs.Reading.{queue_is}
use Rattle.rtgs_ledger.proofs.Whole.{is_of_book}
use Rattle.rtgs_ledger.proofs.ledger.Ledger.queue.Goals as goal
use Rattle.rtgs_ledger.proofs.ledger.Ledger.queue.Goals.{After-queue}

-- as many orders are queued as numbers
many : (c : After-queue) → length c.queue.result.now ≡ length (queued_among c.args.self.now.core.waiting
    c.args.sender.now)
many c = ap length c.queue.ensures.numbers ∙ length-map (queued_among c.self.inside.records.orders.orders
    c.args.sender.now) (λ (o : Order). o.number)
    ∙ ap (λ (h : Held). length (queued_among h.core.waiting c.args.sender.now)) c.self.view_is

pub returns-clause-orders : goal.returns-clause-orders
returns-clause-orders c =
    let all = many (goal.at.returns-clause-orders c).After-queue in
    IfOk-weaker c.beginning.result _ _ (λ orders e. e ∙ take_all _ _ (omega (arith, all))) c.beginning.ensures

pub returns-clause-answered : goal.returns-clause-answered
returns-clause-answered c book is =
    let all = many (goal.at.returns-clause-answered c).After-queue in
    let of = is_of_book book c.self.inside.records c.args.self.now c.self.view_is is in
    let waiting = ap (λ (h : Held). h.core.waiting) (sym c.self.view_is) ∙ of.waiting in
    IfOk-weaker c.beginning.result _ _ (λ orders e. e ∙ take_all _ _ (omega (arith, all))
    ∙ queue_is c.queues_are_of_the_waiting.ensures book c.args.self.now.core.waiting c.args.sender.now waiting)
    c.beginning.ensures
