use Rattle.std.proofs.Common.{◌≡◌, ◌∙◌, ap, drop, arith}
use Rattle.std.proofs.lemmas.Int.{ints}
use Rattle.std.proofs.lemmas.List.{drop_all, drop_more}
use Rattle.rtgs_laws.specs.Quiet.{brings, queued_to}
use Rattle.rtgs_ledger.proofs.Reach.{brought_by_waiting}
use Rattle.rtgs_ledger.proofs.Whole.{is_of_book}
use Rattle.rtgs_ledger.proofs.ledger.Ledger.queued_to.Goals as goal

pub loop-order-preserved : goal.loop-order-preserved
loop-order-preserved c =
    let items = c.as_slice-order-items.result.now in
    let code = c.args.code.now in
    let more : drop c.loop-order.order-index items ≡ _ =
    drop_more items c.loop-order.order-index c.order-item.result c.loop-order-test.true in
    let sum = ap (λ os. queued_to os code) more in
    let value = ap (brings code) c.order-item.is in
    record {
      rest = omega (arith, ints);
      low = omega (arith, ints);
      high = omega (arith, ints);
    }

pub returns-clause-value : goal.returns-clause-value
returns-clause-value c book is =
    let items = c.as_slice-order-items.result.now in
    let code = c.args.code.now in
    let of = is_of_book book c.self.inside.records c.args.self.now c.self.view_is is in
    let none = ap (λ os. queued_to os code) (drop_all c.loop-order.order-index items c.loop-order-test.false) in
    let all : queued_to items code ≡ queued_to book.orders code =
    ap (λ os. queued_to os code) (c.as_slice-order-items.ensures ∙ of.waiting) ∙ brought_by_waiting code book.orders in
    omega (arith, ints)
