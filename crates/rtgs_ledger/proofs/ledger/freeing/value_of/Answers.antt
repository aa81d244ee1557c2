use Rattle.std.proofs.Common.{◌≡◌, ap, drop, pos, arith}
use Rattle.std.proofs.lemmas.Int.{ints}
use Rattle.std.proofs.lemmas.List.{drop_all, drop_more}
use Rattle.rtgs_book.specs.declared.order.Order.{Order}
use Rattle.rtgs_laws.specs.Quiet.{value_of}
use Rattle.rtgs_ledger.proofs.ledger.freeing.value_of.Goals as goal

pub loop-order-preserved : goal.loop-order-preserved
loop-order-preserved c =
    let items = c.args.orders.now in
    let more : drop c.loop-order.order-index items ≡ _ =
    drop_more items c.loop-order.order-index c.order-item.result c.loop-order-test.true in
    let sum = ap value_of more in
    let value = ap (λ (o : Order). pos o.amount) c.order-item.is in
    record {
      rest = omega (arith, ints);
      low = omega (arith, ints);
      high = omega (arith, ints);
    }

pub returns-clause-value : goal.returns-clause-value
returns-clause-value c =
    let none = ap value_of (drop_all c.loop-order.order-index c.args.orders.now c.loop-order-test.false) in
    omega (arith, ints)
