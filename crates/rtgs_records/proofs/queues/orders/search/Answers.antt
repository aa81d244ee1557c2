use Rattle.std.proofs.Common.{rules}
use Rattle.std.proofs.lemmas.List.Sorted.{answers_always}
use Rattle.rtgs_book.specs.declared.order.Order.{Order}
use Rattle.rtgs_records.proofs.queues.OrderLemmas.{searched}
use Rattle.rtgs_records.proofs.queues.orders.search.Goals as goal

-- the closure gives an order's number
pub returns : goal.returns
returns c =
    let facts = c.binary_search_by_key.ensures in
    let by_number = facts.position (λ (o : Order). o.number) (answers_always _ _ _ (λ f a r g called. search rules)) in
    searched c.args.orders.now c.requires c.args.number _ facts.bound by_number
