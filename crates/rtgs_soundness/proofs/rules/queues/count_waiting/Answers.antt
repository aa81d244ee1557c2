use Rattle.std.proofs.Common.{◌+◌, pos, ◌+ℤ◌, ◌&&◌, ap, nat_cmp, arith}
use Rattle.std.proofs.lemmas.Int.{ints}
use Rattle.std.specs.Cmp.Lexicographic.{slice_cmp}
use Rattle.std.specs.Str.{bytes_eq}
use Rattle.rtgs_book.specs.declared.order.Order.{Order}
use Rattle.rtgs_book.specs.Books.{is_waiting}
use Rattle.rtgs_soundness.proofs.Totals.{sum_first, sum_more, sum_all, totals_same}
use Rattle.rtgs_soundness.proofs.rules.queues.count_waiting.Goals as goal

pub count_order-requires : goal.count_order-requires
count_order-requires c = λ key total e.
    let r = c.loop-order.invariant.within key total e in
    let low = r.0 in let high = r.1 in
    let few = c.requires.few in
    (omega (arith, ints), omega (arith, ints))

pub loop-order-preserved : goal.loop-order-preserved
loop-order-preserved c = record {
  sums = λ codes length_of holds.
      totals_same (slice_cmp nat_cmp) codes _ (λ code. length_of code +ℤ sum_first
      (λ (o : Order). is_waiting o && bytes_eq o.sender code) (λ o. pos 1) c.args.orders.now
      (c.loop-order.order-index + 1)) c.count_order.new.lengths
      (λ code. let more = sum_more (λ (o : Order). is_waiting o && bytes_eq o.sender code) (λ o. pos 1)
      c.args.orders.now c.loop-order.order-index c.order-item.result c.loop-order-test.true c.order-item.is in
      omega (arith, ints))
      (c.count_order.ensures.sums codes (λ code. length_of code +ℤ sum_first
      (λ (o : Order). is_waiting o && bytes_eq o.sender code) (λ o. pos 1) c.args.orders.now c.loop-order.order-index)
      (c.loop-order.invariant.sums codes length_of holds));
  within = c.count_order.ensures.within c.loop-order.order-index c.loop-order.invariant.within;
}

pub returns : goal.returns
returns c = λ codes length_of holds.
    totals_same (slice_cmp nat_cmp) codes _ _ c.loop-order.lengths
    (λ code. ap (λ z. length_of code +ℤ z) (sum_all (λ (o : Order). is_waiting o && bytes_eq o.sender code) (λ o. pos 1)
    c.args.orders.now c.loop-order.order-index c.loop-order-test.false))
    (c.loop-order.invariant.sums codes length_of holds)
