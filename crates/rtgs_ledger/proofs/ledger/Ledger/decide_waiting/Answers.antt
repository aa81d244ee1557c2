use Rattle.std.proofs.Common.{◌≡◌, ◌∙◌, sym, ap, subst, length, false, inl, refl}
use Rattle.std.proofs.lemmas.Result.{err_from_is_err_and}
use Rattle.std.proofs.lemmas.List.{length-map}
use Rattle.rtgs_book.specs.declared.book.Book.{Book}
use Rattle.rtgs_book.specs.declared.order.Order.{Order}
use Rattle.rtgs_book.specs.Commands.{as_sent, settles_now}
use Rattle.rtgs_book.specs.Queue.{queue, queued_among}
use Rattle.rtgs_ledger.specs.Ordering.{IsTaken}
use Rattle.rtgs_ledger.proofs.Ordering.{prepared_waiting, taken_acts}
use Rattle.rtgs_ledger.proofs.Reading.{queue_is}
use Rattle.rtgs_ledger.proofs.Rooms.{order_can_be_made}
use Rattle.rtgs_ledger.proofs.Whole.{held_of, book_of, whole, is_of_book, to_prepared}
use Rattle.rtgs_ledger.proofs.ledger.Ledger.decide_waiting.Goals as goal

pub returns-clause-prepared : goal.returns-clause-prepared
returns-clause-prepared c book is taken waits =
    let r = c.self.inside.records in
    let of = is_of_book book r c.args.self.now c.self.view_is is in
    let w = whole book r in
    let o = c.args.order in
    let taken_here = subst (λ (b : Book). IsTaken b o) (sym of.same) taken in
    let waits_here = subst (λ (b : Book). settles_now b o.sender (as_sent o) ≡ false) (sym of.same) waits in
    let place : length c.queue.result.now ≡ length (queue (book_of w) o.sender) = ap length c.queue.ensures.numbers
    ∙ length-map (queued_among r.orders.orders o.sender) (λ (x : Order). x.number)
    ∙ ap length (queue_is c.queues_are_of_the_waiting.ensures (book_of w) r.orders.orders o.sender of.waiting) in
    rw (c.from_vec.ensures, c.in_ok-rows.ensures.items, c.waiting_answer.ensures, place) (to_prepared book r
    c.args.self.now.core of _ _ _
    (prepared_waiting (held_of w) of.kept o taken_here waits_here))

pub returns-in_err-rows-clause-refused : goal.returns-in_err-rows-clause-refused
returns-in_err-rows-clause-refused c book taken =
    let passed = err_from_is_err_and c.from_residual.result c.from_residual.ensures.1 in
    rw (passed.1, passed.2) (inl (refl, λ _. taken_acts book c.args.order taken))

pub returns-clause-made : goal.returns-clause-made
returns-clause-made c = rw (c.from_vec.ensures, c.in_ok-rows.ensures.items)
    (order_can_be_made c.args.self.now.core c.args.order c.requires.number c.requires.few)
