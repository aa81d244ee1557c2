use Rattle.std.proofs.Common.{◌≡◌, ◌∙◌, ◌<◌, ◌∷◌, [], length, get_or, take, Some, None, ap, sym, arith}
use Rattle.std.proofs.lemmas.Bool.Decides.{nat_tests}
use Rattle.std.proofs.lemmas.List.{length-map, take_more}
use Rattle.rtgs_book.specs.declared.order.Order.{Order}
use Rattle.rtgs_book.specs.Queue.{queued_among}
use Rattle.rtgs_ledger.proofs.Reach.{queue_is_empty}
use Rattle.rtgs_ledger.proofs.Reading.{leads_home, queue_is}
use Rattle.rtgs_ledger.proofs.Whole.{is_of_book}
use Rattle.rtgs_ledger.proofs.ledger.Ledger.first_queued.Goals as goal

pub returns-then-is_empty-clause-none : goal.returns-then-is_empty-clause-none
returns-then-is_empty-clause-none c book is none =
    let r = c.self.inside.records in
    let of = is_of_book book r c.args.self.now c.self.view_is is in
    let test = sym c.is_empty.ensures ∙ c.if-is_empty.true in
    let few : length c.queue-queue.result.now ≡ 0 = grind (arith, nat_tests, test) in
    queue_is_empty c.queues_are_of_the_waiting.ensures book r.orders.orders c.args.sender.now c.queue-queue.result.now
    of.waiting c.queue-queue.ensures.numbers few

pub returns-clause-first : goal.returns-clause-first
returns-clause-first c book is =
    let r = c.self.inside.records in
    let among = queued_among r.orders.orders c.args.sender.now in
    let of = is_of_book book r c.args.self.now c.self.view_is is in
    let many : length c.queue-queue.result.now ≡ length among =
    ap length c.queue-queue.ensures.numbers ∙ length-map among (λ (o : Order). o.number) in
    let test = sym c.is_empty.ensures ∙ c.if-is_empty.false in
    let some : 0 < length c.queue-queue.result.now = grind (arith, nat_tests, test) in
    let home = leads_home r.orders.orders among c.queue-queue.result.now c.queue-queue.ensures.found many 0 some in
    let there : Some home.0 ≡ Some (get_or among 0 home.0) = sym home.1 ∙ c.queue-queue.ensures.found 0 home.0 some in
    let same : get_or among 0 home.0 ≡ home.0 = cc in
    rw (c.numbered.ensures ∙ home.1) (ap (take 1) (sym (queue_is c.queues_are_of_the_waiting.ensures book
    r.orders.orders c.args.sender.now of.waiting)) ∙ take_more among 0 home.0 (omega (arith, many, some))
    ∙ ap (λ (o : Order). o ∷ []) same)

pub returns-clause-none : goal.returns-clause-none
returns-clause-none c book is none =
    let r = c.self.inside.records in
    let among = queued_among r.orders.orders c.args.sender.now in
    let many : length c.queue-queue.result.now ≡ length among =
    ap length c.queue-queue.ensures.numbers ∙ length-map among (λ (o : Order). o.number) in
    let test = sym c.is_empty.ensures ∙ c.if-is_empty.false in
    let some : 0 < length c.queue-queue.result.now = grind (arith, nat_tests, test) in
    let home = leads_home r.orders.orders among c.queue-queue.result.now c.queue-queue.ensures.found many 0 some in
    absurd (let e : None ≡ Some home.0 = sym none ∙ c.numbered.ensures ∙ home.1 in cc)
