use Rattle.std.proofs.Common.{rules, ◌≡◌, ◌≤◌, ◌+◌, ◌∙◌, ◌++◌, ◌∷◌, [], length, take, ap, sym, subst, arith}
use Rattle.std.proofs.lemmas.List.{take_more}
use Rattle.rtgs_book.specs.declared.order.Order.{Order}
use Rattle.rtgs_book.specs.Books.{is_queued_state, is_held_state}
use Rattle.rtgs_records.specs.queues.QueueNumbers.{numbers_of, room_of}
use Rattle.rtgs_records.proofs.queues.OrderLemmas.{ArePlaces, place_queued, place_held, place_none, not_queued}
use Rattle.rtgs_records.proofs.queues.OrderLemmas.{not_held}
use Rattle.rtgs_records.proofs.queues.orders.places_of.Goals as goal
use Rattle.rtgs_records.proofs.queues.orders.places_of.Goals.{in-Queued, in-Held+in_ok-reserve-in-Held, in_default}

pub loop-order-preserved : goal.loop-order-preserved
loop-order-preserved c =
    let orders = c.args.orders.now in
    let k = c.loop-order.order-index in
    let x = c.order-item.result in
    let more : take (k + 1) orders ≡ take k orders ++ x ∷ [] = take_more orders k x c.loop-order-test.true
    ∙ ap (λ (o : Order). take k orders ++ o ∷ []) (sym c.order-item.is) in
    let wide : length (numbers_of c.loop-order.held x.sender) + 1 ≤ room_of c.reserve.new.self x.sender =
    search (rules, c.in_ok-reserve.ensures.room, ap length c.get.ensures) in
    elim c.match-order.branch [
      | in-Queued w ↦ subst (λ os. ArePlaces os c.match-order.queues c.match-order.held) (sym more)
          (subst (λ q. ArePlaces (take k orders ++ x ∷ []) q c.match-order.held) (sym w.queues-is)
          (subst (λ h. ArePlaces (take k orders ++ x ∷ []) w.push.new.self h) (sym w.held-is)
          (place_queued (take k orders) x c.loop-order.queues c.loop-order.held c.reserve.new.self
          c.loop-order.invariant
          c.in_ok-reserve.ensures.same c.in_ok-reserve.ensures.more wide w.push.new.self
          (ap is_queued_state w.in-Queued.is) (ap is_held_state w.in-Queued.is) w.push.ensures.queues
          (λ sender. let same = w.push.ensures.room sender in omega arith))))
      | in-Held+in_ok-reserve-in-Held w ↦ subst (λ os. ArePlaces os c.match-order.queues c.match-order.held) (sym more)
          (subst (λ q. ArePlaces (take k orders ++ x ∷ []) q c.match-order.held) (sym w.queues-is)
          (subst (λ h. ArePlaces (take k orders ++ x ∷ []) c.reserve.new.self h) (sym w.held-is)
          (place_held (take k orders) x c.loop-order.queues c.loop-order.held c.reserve.new.self c.loop-order.invariant
          c.in_ok-reserve.ensures.same c.in_ok-reserve.ensures.more wide w.push-in-Held.new.self
          w.reserve-in-Held.new.self (ap is_queued_state w.in-Held.is) (ap is_held_state w.in-Held.is)
          w.in_ok-reserve-in-Held.ensures.same w.push-in-Held.ensures.queues)))
      | in_default w ↦ subst (λ os. ArePlaces os c.match-order.queues c.match-order.held) (sym more)
          (subst (λ q. ArePlaces (take k orders ++ x ∷ []) q c.match-order.held) (sym w.queues-is)
          (subst (λ h. ArePlaces (take k orders ++ x ∷ []) c.reserve.new.self h) (sym w.held-is)
          (place_none (take k orders) x c.loop-order.queues c.loop-order.held c.reserve.new.self c.loop-order.invariant
          c.in_ok-reserve.ensures.same c.in_ok-reserve.ensures.more wide (not_queued x.state w.in_default.not-Queued)
          (not_held x.state w.in_default.not-Held))))
    ]
