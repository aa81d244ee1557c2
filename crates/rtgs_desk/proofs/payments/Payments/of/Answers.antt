use Rattle.std.proofs.Common.{◌∙◌, ap}
use Rattle.std.proofs.lemmas.List.{take_all}
use Rattle.rtgs_desk.specs.Payments.{paid_in, paid_to}
use Rattle.rtgs_desk.proofs.QueueLemmas.{one_more}
use Rattle.rtgs_desk.proofs.payments.Payments.of.Goals as goal

pub loop-order-preserved : goal.loop-order-preserved
loop-order-preserved c = record {
  paid = λ code. one_more code c.args.orders.now c.loop-order.order-index c.order-item.result
      (paid_in c.loop-order.payments code) (paid_in c.add.new.self code) c.loop-order-test.true c.order-item.is
      (c.loop-order.invariant.paid code) (c.in_ok-add.ensures code);
}

pub returns : goal.returns
returns c = λ code. c.loop-order.invariant.paid code
    ∙ ap (paid_to code) (take_all c.loop-order.order-index c.args.orders.now c.loop-order-test.false)
