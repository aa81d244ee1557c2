use Rattle.std.proofs.Common.{◌≡◌, ◌∙◌, ◌<◌, ap, subst, List, ℕ, find, get_or, length}
use Rattle.std.proofs.lemmas.List.{length-map}
use Rattle.rtgs_book.specs.declared.order.Order.{Order}
use Rattle.rtgs_book.specs.Books.{is_waiting}
use Rattle.rtgs_book.specs.Commands.{has_number}
use Rattle.rtgs_book.specs.Queue.{queued_among, queued_numbers}
use Rattle.rtgs_records.specs.queues.Orders.{AreRising}
use Rattle.rtgs_records.proofs.queues.OrderLemmas.{same_numbers, rising_filter}
use Rattle.rtgs_records.proofs.queues.Reading.{queued_at}
use Rattle.rtgs_records.proofs.queues.orders.Orders.queue.Goals as goal

pub returns-clause-numbers : goal.returns-clause-numbers
returns-clause-numbers c = c.get.ensures ∙ c.self.invariant.queued c.args.sender.now
    ∙ same_numbers c.args.sender.now c.self.inside.orders.items
    ∙ ap (λ (os : List Order). queued_numbers os c.args.sender.now) (λ i. (c.self.view_is i).orders)

pub returns-clause-found : goal.returns-clause-found
returns-clause-found c k d lt =
    let sender = c.args.sender.now in
    let orders = c.args.self.now.orders in
    let is : c.get.result.now ≡ queued_numbers orders sender = c.get.ensures ∙ c.self.invariant.queued sender
    ∙ same_numbers sender c.self.inside.orders.items
    ∙ ap (λ (os : List Order). queued_numbers os sender) (λ i. (c.self.view_is i).orders) in
    let rise : AreRising orders = subst AreRising (λ i. (c.self.view_is i).orders)
    (rising_filter is_waiting c.self.inside.orders.items c.self.invariant.rising) in
    let long : length c.get.result.now ≡ length (queued_among orders sender) = ap length is
    ∙ length-map (queued_among orders sender) (λ (o : Order). o.number) in
    ap (λ (ns : List ℕ). find (has_number (get_or ns k 0)) orders) is
    ∙ queued_at orders rise sender k d (subst (λ n. k < n) long lt)
