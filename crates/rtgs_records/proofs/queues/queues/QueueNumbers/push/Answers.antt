use Rattle.std.proofs.Common.{rules, ◌≡◌, ◌+◌, ◌-◌, ◌≤◌, ◌++◌, ◌∷◌, [], cond, refl, vec_len, arith, Some}
use Rattle.std.specs.Ordering.{nat_cmp}
use Rattle.std.specs.Cmp.Lexicographic.{slice_cmp}
use Rattle.std.specs.BTreeMap.{get}
use Rattle.std.specs.Vec.{vec_capacity}
use Rattle.rtgs_records.proofs.queues.QueueLemmas.{read_after}
use Rattle.rtgs_records.proofs.queues.queues.QueueNumbers.push.Goals as goal

pub returns-in-Some-clause-queues : goal.returns-in-Some-clause-queues
returns-in-Some-clause-queues c =
    let found : get (slice_cmp nat_cmp) c.args.self.now.numbers c.args.sender.now
    ≡ Some c.in-Some.queue.now = search rules in
    read_after (λ queue. queue.items) [] (λ b before after. after ≡ cond b (before ++ c.args.number ∷ []) before)
    (λ a. refl)
    c.args.self.now.numbers (c.get_mut.follows.lender c.push_reserved.new.self) c.args.sender.now
    c.push_reserved.new.self ((c.get_mut.follows.holds c.push_reserved.new.self).3 (search rules))
    (rw found c.push_reserved.ensures.items)

pub returns-in-Some-clause-room : goal.returns-in-Some-clause-room
returns-in-Some-clause-room c =
    let found : get (slice_cmp nat_cmp) c.args.self.now.numbers c.args.sender.now
    ≡ Some c.in-Some.queue.now = search rules in
    let some : 1 ≤ vec_capacity c.in-Some.queue.now - vec_len c.in-Some.queue.now = rw found at c.requires in
    let long = c.push_reserved.ensures.len in
    let wide = c.push_reserved.ensures.capacity in
    read_after (λ queue. vec_capacity queue - vec_len queue) 0 (λ b before after. before ≡ after + cond b 1 0)
    (λ a. omega arith)
    c.args.self.now.numbers (c.get_mut.follows.lender c.push_reserved.new.self) c.args.sender.now
    c.push_reserved.new.self ((c.get_mut.follows.holds c.push_reserved.new.self).3 (search rules))
    (rw found (omega arith))
