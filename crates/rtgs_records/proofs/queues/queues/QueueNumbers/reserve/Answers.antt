use Rattle.std.proofs.Common.{rules, ◌≡◌, List, [], ℕ, Option, Some, None, Vec, Global, BTreeMap, vec_len, subst, sym}
use Rattle.std.proofs.Common.{ap, ◌∙◌, ◌-◌, ◌≤◌, arith, refl}
use Rattle.std.specs.Option.{option_map_or, UnwrapsOrElse}
use Rattle.std.specs.BTreeMap.Entry.{map_with_value}
use Rattle.std.specs.Vec.{vec_capacity}
use Rattle.rtgs_records.specs.queues.QueueNumbers.{numbers_of, room_of}
use Rattle.rtgs_records.proofs.queues.QueueLemmas.{read_after}
use Rattle.rtgs_records.proofs.queues.queues.QueueNumbers.reserve.Goals as goal

items_of : (o : Option (Vec ℕ Global)) (queue : Vec ℕ Global)
    → UnwrapsOrElse o (λ queue. (queue.items ≡ []) × (vec_len queue ≡ 0)) queue
    → queue.items ≡ option_map_or (λ (queue : Vec ℕ Global). queue.items) o []
items_of None queue h = h.0
items_of (Some found) queue h = ap (λ (queue : Vec ℕ Global). queue.items) h

pub returns-clause-same : goal.returns-clause-same
returns-clause-same c = λ other.
    let found = subst (λ o. UnwrapsOrElse o (λ (queue : Vec ℕ Global). (queue.items ≡ []) × (vec_len queue ≡ 0))
    c.or_default-queue.result.now) c.in_ok-self.ensures.value c.or_default-queue.ensures.value in
    let here : c.reserve.new.self.items ≡ numbers_of c.args.self.now c.args.sender = c.reserve.ensures.items
    ∙ items_of _ c.or_default-queue.result.now found in
    let there : numbers_of (record { numbers = map_with_value c.in_ok-self.field-0 c.reserve.new.self }) other
    ≡ numbers_of c.args.self.now other = read_after (λ queue. queue.items) [] (λ b before after. after ≡ before)
    (λ a. refl)
    c.args.self.now.numbers (map_with_value c.in_ok-self.field-0 c.reserve.new.self) c.args.sender c.reserve.new.self
    (c.in_ok-self.ensures.update.0 c.reserve.new.self) here other in
    let after = λ (n : BTreeMap (List ℕ) (Vec ℕ Global)) (e : n
    ≡ map_with_value c.in_ok-self.field-0 c.reserve.new.self). subst
    (λ n. numbers_of (record { numbers = n }) other ≡ numbers_of c.args.self.now other) (sym e) there in
    search (rules, after)

pub returns-clause-room : goal.returns-clause-room
returns-clause-room c = search (rules, c.in_ok-self.ensures.update.0 c.reserve.new.self)

room_in : (o : Option (Vec ℕ Global)) (queue : Vec ℕ Global)
    → UnwrapsOrElse o (λ queue. (queue.items ≡ []) × (vec_len queue ≡ 0)) queue
    → option_map_or (λ (queue : Vec ℕ Global). vec_capacity queue - vec_len queue) o 0
    ≤ vec_capacity queue - vec_len queue
room_in None queue h = omega arith
room_in (Some found) queue h = rw h (omega arith)

pub returns-clause-more : goal.returns-clause-more
returns-clause-more c = λ other.
    let found = subst (λ o. UnwrapsOrElse o (λ (queue : Vec ℕ Global). (queue.items ≡ []) × (vec_len queue ≡ 0))
    c.or_default-queue.result.now) c.in_ok-self.ensures.value c.or_default-queue.ensures.value in
    let was : room_of c.args.self.now c.args.sender ≤ vec_capacity c.or_default-queue.result.now - vec_len
    c.or_default-queue.result.now = room_in _ c.or_default-queue.result.now found in
    let here : room_of c.args.self.now c.args.sender ≤ vec_capacity c.reserve.new.self - vec_len c.reserve.new.self =
    let long = c.reserve.ensures.len in let wide = c.reserve.ensures.capacity in omega arith in
    let there : room_of c.args.self.now other
    ≤ room_of (record { numbers = map_with_value c.in_ok-self.field-0 c.reserve.new.self }) other = read_after
    (λ queue. vec_capacity queue - vec_len queue) 0 (λ b before after. before ≤ after)
    (λ a. omega arith)
    c.args.self.now.numbers (map_with_value c.in_ok-self.field-0 c.reserve.new.self) c.args.sender c.reserve.new.self
    (c.in_ok-self.ensures.update.0 c.reserve.new.self) here other in
    let after = λ (n : BTreeMap (List ℕ) (Vec ℕ Global)) (e : n
    ≡ map_with_value c.in_ok-self.field-0 c.reserve.new.self). subst
    (λ n. room_of c.args.self.now other ≤ room_of (record { numbers = n }) other) (sym e) there in
    search (rules, after)
