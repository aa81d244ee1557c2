use Rattle.std.proofs.Common.{rules, ◌-◌, ◌≤◌, vec_len, arith, ◌≡◌, [], ℕ, not, ◌==◌, filter, cond, refl, Some}
use Rattle.std.specs.Ordering.{nat_cmp}
use Rattle.std.specs.Cmp.Lexicographic.{slice_cmp}
use Rattle.std.specs.BTreeMap.{get}
use Rattle.std.proofs.lemmas.Fn.{filter_same}
use Rattle.std.specs.Vec.{vec_capacity}
use Rattle.rtgs_records.proofs.queues.QueueLemmas.{read_after}
use Rattle.rtgs_records.proofs.queues.queues.QueueNumbers.remove.Goals as goal

pub returns-in-Some-clause-queues : goal.returns-in-Some-clause-queues
returns-in-Some-clause-queues c =
    let kept : c.retain.new.self.items ≡ filter (λ (n : ℕ). not (n == c.args.number)) c.in-Some.queue.now.items =
    filter_same _ _ _ (λ x b f k. search rules) _ _ c.retain.ensures.filtered in
    let found : get (slice_cmp nat_cmp) c.args.self.now.numbers c.args.sender.now
    ≡ Some c.in-Some.queue.now = search rules in
    read_after (λ queue. queue.items) [] (λ b before after. after
    ≡ cond b (filter (λ (n : ℕ). not (n == c.args.number)) before) before) (λ a. refl)
    c.args.self.now.numbers (c.get_mut.follows.lender c.retain.new.self) c.args.sender.now c.retain.new.self
    ((c.get_mut.follows.holds c.retain.new.self).3 (search rules))
    (rw found kept)

pub returns-in-Some-clause-room : goal.returns-in-Some-clause-room
returns-in-Some-clause-room c =
    let found : get (slice_cmp nat_cmp) c.args.self.now.numbers c.args.sender.now
    ≡ Some c.in-Some.queue.now = search rules in
    read_after (λ queue. vec_capacity queue - vec_len queue) 0 (λ b before after. before ≤ after) (λ a. omega arith)
    c.args.self.now.numbers (c.get_mut.follows.lender c.retain.new.self) c.args.sender.now c.retain.new.self
    ((c.get_mut.follows.holds c.retain.new.self).3 (search rules))
    (rw found (let short = c.retain.ensures.bound in let wide = c.retain.ensures.capacity in omega arith))
