use Rattle.std.proofs.Common.{◌≡◌, ◌∙◌, ◌+◌, ◌<◌, ◌++◌, ◌∷◌, [], refl, sym, ap, subst, get_or, length, min, Some, find}
use Rattle.std.proofs.Common.{take, length-append, arith}
use Rattle.std.proofs.lemmas.List.{get_or-take, length-map, length-take, take_min, take_more}
use Rattle.rtgs_book.specs.declared.order.Order.{Order}
use Rattle.rtgs_book.specs.Commands.{has_number}
use Rattle.rtgs_book.specs.Queue.{queued_among}
use Rattle.rtgs_records.specs.Held.{Held}
use Rattle.rtgs_ledger.proofs.Reading.{leads_home}
use Rattle.rtgs_ledger.proofs.ledger.Ledger.beginning.Goals as goal

pub unwrap-requires : goal.unwrap-requires
unwrap-requires c =
    let orders = c.self.inside.records.orders.orders in
    let queue = queued_among orders c.args.sender.now in
    let numbers = c.queue-numbers.result.now in
    let count = c.min-count.result in
    let i = c.loop-number.number-index in
    let many : length numbers ≡ length queue = ap length c.queue-numbers.ensures.numbers
    ∙ length-map queue (λ (o : Order). o.number) in
    let long = length-take count numbers in
    let test = c.loop-number-test.true in
    let early : i < count = omega (arith, long, test) in
    let within : i < length numbers = omega (arith, long, test) in
    let home = leads_home orders queue numbers c.queue-numbers.ensures.found many i within in
    rw (c.numbered.ensures, get_or-take count numbers i 0 early, home.1) refl

pub loop-number-preserved : goal.loop-number-preserved
loop-number-preserved c =
    let orders = c.self.inside.records.orders.orders in
    let queue = queued_among orders c.args.sender.now in
    let numbers = c.queue-numbers.result.now in
    let count = c.min-count.result in
    let o = c.unwrap.result in
    let i = c.loop-number.number-index in
    let many : length numbers ≡ length queue = ap length c.queue-numbers.ensures.numbers
    ∙ length-map queue (λ (o : Order). o.number) in
    let long = length-take count numbers in
    let test = c.loop-number-test.true in
    let early : i < count = omega (arith, long, test) in
    let within : i < length numbers = omega (arith, long, test) in
    let found : Some o ≡ Some (get_or queue i o) = sym c.unwrap.ensures ∙ c.numbered.ensures
    ∙ ap (λ n. find (has_number n) orders) (get_or-take count numbers i 0 early)
    ∙ c.queue-numbers.ensures.found i o within in
    let same : o ≡ get_or queue i o = cc in
    record {
      orders = c.push_reserved.ensures.items ∙ (λ j. c.loop-number.invariant.orders j ++ same j ∷ [])
          ∙ sym (take_more queue i o (subst (λ n. i < n) many within));
      room = omega (arith, c.push_reserved.ensures.capacity, c.loop-number.invariant.room);
      within = omega (arith, early);
      so_many = ap length c.push_reserved.ensures.items ∙ length-append c.loop-number.orders.items (o ∷ [])
          ∙ ap (λ n. n + 1) c.loop-number.invariant.so_many;
    }

pub returns : goal.returns
returns c =
    let queue = queued_among c.self.inside.records.orders.orders c.args.sender.now in
    let numbers = c.queue-numbers.result.now in
    let count = c.min-count.result in
    let many : length numbers ≡ length queue = ap length c.queue-numbers.ensures.numbers
    ∙ length-map queue (λ (o : Order). o.number) in
    let long = length-take count numbers in
    let so_many : c.loop-number.number-index ≡ min c.args.most (length queue) =
    omega (arith, many, long, c.min-count.ensures, c.loop-number-test.false, c.loop-number.invariant.within) in
    c.loop-number.invariant.orders ∙ ap (λ n. take n queue) so_many ∙ take_min c.args.most queue
    ∙ ap (λ (h : Held). take c.args.most (queued_among h.core.waiting c.args.sender.now)) c.self.view_is
