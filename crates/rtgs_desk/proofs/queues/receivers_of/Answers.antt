use Rattle.std.proofs.Common.{◌≡◌, ◌∙◌, ◌++◌, ap}
use Rattle.std.proofs.lemmas.List.{take_all}
use Rattle.std.specs.List.{flat_map}
use Rattle.rtgs_book.specs.declared.account.Account.{Account}
use Rattle.rtgs_book.specs.cores.Following.{code_of}
use Rattle.rtgs_desk.specs.Payments.{paid_in}
use Rattle.rtgs_desk.specs.Queues.{receiver_of}
use Rattle.rtgs_desk.proofs.QueueLemmas.{flat_map_more, receivers_are}
use Rattle.rtgs_desk.proofs.queues.receivers_of.Goals as goal

pub loop-account-preserved : goal.loop-account-preserved
loop-account-preserved c =
    let payments = c.in_ok-payments.payments in
    let a = c.account-item.result in
    let before = c.loop-account.receivers.items in
    let added : c.add_receiver.new.receivers.items ≡ before ++ receiver_of (code_of a) c.to.result.now =
    c.in_ok-add_receiver.ensures in
    record {
      first = flat_map_more (λ (a : Account). receiver_of (code_of a) (paid_in payments (code_of a)))
          c.accounts-account-items.result.now c.loop-account.account-index a before
          c.add_receiver.new.receivers.items c.loop-account-test.true c.account-item.is c.loop-account.invariant.first
          (added ∙ ap (λ orders. before ++ receiver_of (code_of a) orders) c.to.ensures);
    }

pub returns : goal.returns
returns c book is =
    let payments = c.in_ok-payments.payments in
    let items = c.accounts-account-items.result.now in
    c.from_vec.ensures
    ∙ receivers_are book c.args.ledger.now.core payments c.args.orders.now items c.loop-account.receivers.items is
    c.accounts-account-items.ensures c.in_ok-payments.ensures
    (c.loop-account.invariant.first
    ∙ ap (flat_map (λ (a : Account). receiver_of (code_of a) (paid_in payments (code_of a))))
    (take_all c.loop-account.account-index items c.loop-account-test.false))
