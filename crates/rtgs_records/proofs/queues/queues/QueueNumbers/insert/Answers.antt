use Rattle.std.proofs.Common.{rules, ◌≡◌, ◌+◌, ◌-◌, ◌≤◌, [], cond, nat_lt, refl, vec_len, arith}
use Rattle.std.proofs.Common.{Some}
use Rattle.std.specs.Ordering.{nat_cmp}
use Rattle.std.specs.Cmp.Lexicographic.{slice_cmp}
use Rattle.std.specs.BTreeMap.{get}
use Rattle.std.specs.Vec.{vec_capacity}
use Rattle.rtgs_lists.proofs.Filters.{put_in}
use Rattle.rtgs_records.specs.queues.QueueNumbers.{AreInOrder}
use Rattle.rtgs_records.proofs.queues.QueueLemmas.{read_after}
use Rattle.rtgs_records.proofs.queues.queues.QueueNumbers.insert.Goals as goal

pub returns-in-Some-clause-queues : goal.returns-in-Some-clause-queues
returns-in-Some-clause-queues c = λ other order.
    let found : get (slice_cmp nat_cmp) c.args.self.now.numbers c.args.sender.now
    ≡ Some c.in-Some.queue.now = search rules in
    let rising : AreInOrder c.in-Some.queue.now.items = rw found at order in
    read_after (λ queue. queue.items) [] (λ b before after. after
    ≡ cond b (put_in (λ n. nat_lt n c.args.number) c.args.number before) before)
    (λ a. refl)
    c.args.self.now.numbers (c.get_mut.follows.lender c.insert_in_order.new.numbers) c.args.sender.now
    c.insert_in_order.new.numbers ((c.get_mut.follows.holds c.insert_in_order.new.numbers).3 (search rules))
    (rw found (c.insert_in_order.ensures.items rising)) other

pub returns-in-Some-clause-room : goal.returns-in-Some-clause-room
returns-in-Some-clause-room c =
    let found : get (slice_cmp nat_cmp) c.args.self.now.numbers c.args.sender.now
    ≡ Some c.in-Some.queue.now = search rules in
    let long = c.insert_in_order.ensures.len in
    let wide = c.insert_in_order.ensures.capacity in
    read_after (λ queue. vec_capacity queue - vec_len queue) 0 (λ b before after. before ≤ after + cond b 1 0)
    (λ a. omega arith)
    c.args.self.now.numbers (c.get_mut.follows.lender c.insert_in_order.new.numbers) c.args.sender.now
    c.insert_in_order.new.numbers ((c.get_mut.follows.holds c.insert_in_order.new.numbers).3 (search rules))
    (rw found (omega arith))
