use Rattle.std.proofs.Common.{◌≡◌, ◌∙◌, ◌++◌, None, Some, sym, ap, rules}
use Rattle.std.proofs.lemmas.List.{append-nil}
use Rattle.std.specs.Prelude.{slice_get}
use Rattle.rtgs_book.specs.Queue.{queue}
use Rattle.rtgs_desk.specs.Queues.{queue_if_any}
use Rattle.rtgs_desk.proofs.QueueLemmas.{no_queue, some_queue}
use Rattle.rtgs_desk.proofs.queues.add_queue.Goals as goal

pub returns-in_default : goal.returns-in_default
returns-in_default c book choice is same =
    let orders = c.as_slice-orders.result.now in
    let there : orders ≡ c.in_ok-queue.queue.items = search rules in
    let items : orders ≡ queue book c.args.code.now = there ∙ c.in_ok-queue.ensures.answered book is in
    let none : None ≡ slice_get orders 0 = search rules in
    sym (append-nil c.args.readings.now.items)
    ∙ ap (λ more. c.args.readings.now.items ++ more) (sym (no_queue book choice c.args.code.now orders none)
    ∙ ap (queue_if_any book choice c.args.code.now) items)

pub returns : goal.returns
returns c book choice is same =
    let orders = c.as_slice-orders.result.now in
    let there : orders ≡ c.in_ok-queue.queue.items = search rules in
    let items : orders ≡ queue book c.args.code.now = there ∙ c.in_ok-queue.ensures.answered book is in
    let first : Some c.in-Some.first.now ≡ slice_get orders 0 = search rules in
    c.in_ok-push.ensures.items
    ∙ ap (λ more. c.args.readings.now.items ++ more) (some_queue book choice c.args.code.now orders
    c.in-Some.first.now c.in_ok-reading.reading first (c.in_ok-reading.ensures book choice is same)
    ∙ ap (queue_if_any book choice c.args.code.now) items)
