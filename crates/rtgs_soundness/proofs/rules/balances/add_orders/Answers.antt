use Rattle.std.proofs.Common.{◌^◌, ◌+◌, ◌*◌, ◌+ℤ◌, nat_cmp, arith}
use Rattle.std.proofs.lemmas.Int.{ints}
use Rattle.std.specs.Cmp.Lexicographic.{slice_cmp}
use Rattle.rtgs_money.specs.declared.amount.TheConstants.Amount as Amount
use Rattle.rtgs_book.specs.Books.{is_settled}
use Rattle.rtgs_book.specs.Balance.{gain}
use Rattle.rtgs_money.specs.Amounts.{IsAmount}
use Rattle.rtgs_book.specs.declared.order.Order.{Order}
use Rattle.rtgs_soundness.proofs.Totals.{sum_first, sum_more, totals_same, all_more}
use Rattle.rtgs_soundness.proofs.rules.balances.add_orders.Goals as goal

pub add_order-requires : goal.add_order-requires
add_order-requires c = λ key total e.
    let r = c.loop-order.invariant.within key total e in
    let low = r.0 in let high = r.1 in
    let few = c.requires.few in
    (omega (arith, ints), omega (arith, ints))

pub loop-order-preserved : goal.loop-order-preserved
loop-order-preserved c = record {
  sums = λ codes sum_of holds.
      totals_same (slice_cmp nat_cmp) codes _ (λ code. sum_of code +ℤ sum_first is_settled (gain code) c.args.orders.now
      (c.loop-order.order-index + 1)) c.add_order.new.totals
      (λ code. let more = sum_more is_settled (gain code) c.args.orders.now c.loop-order.order-index c.order-item.result
      c.loop-order-test.true c.order-item.is in omega (arith, ints))
      (c.add_order.ensures.sums codes (λ code. sum_of code +ℤ sum_first is_settled (gain code) c.args.orders.now
      c.loop-order.order-index) (c.loop-order.invariant.sums codes sum_of holds));
  within = λ key total e.
      let r = c.add_order.ensures.within (10 ^ 27 + c.loop-order.order-index * (2 * Amount.MAX))
      c.loop-order.invariant.within key total e in
      let low = r.0 in let high = r.1 in
      (omega (arith, ints), omega (arith, ints));
  amounts = all_more (λ (o : Order). IsAmount o.amount) c.args.orders.now c.loop-order.order-index c.order-item.result
      c.loop-order-test.true c.order-item.is c.loop-order.invariant.amounts c.add_order.ensures.amount;
}
