use Rattle.std.proofs.Common.{rules, ◌≡◌, ◌∙◌, ap, List, length}
use Rattle.rtgs_book.specs.declared.order.Order.{Order}
use Rattle.rtgs_book.specs.Books.{is_queued_state, is_held_state}
use Rattle.rtgs_records.specs.queues.Orders.{numbers_among}
use Rattle.rtgs_records.proofs.queues.OrderLemmas.{same_numbers, same_held}
use Rattle.rtgs_records.proofs.queues.orders.Orders.count.Goals as goal

pub returns : goal.returns
returns c =
    let sender = c.args.sender.now in
    let queued : length c.get-queued.result.now ≡ length (numbers_among is_queued_state c.args.self.now.orders sender) =
    ap length (c.get-queued.ensures ∙ c.self.invariant.queued sender ∙ same_numbers sender c.self.inside.orders.items
    ∙ ap (λ (os : List Order). numbers_among is_queued_state os sender) (λ i. (c.self.view_is i).orders)) in
    let held : length c.get-held.result.now ≡ length (numbers_among is_held_state c.args.self.now.orders sender) =
    ap length (c.get-held.ensures ∙ c.self.invariant.held sender ∙ same_held sender c.self.inside.orders.items
    ∙ ap (λ (os : List Order). numbers_among is_held_state os sender) (λ i. (c.self.view_is i).orders)) in
    search (rules, queued, held)
