use Rattle.std.proofs.Common.{◌≡◌, ◌∙◌, ◌<◌, map, length, None, Some, true, ap, subst, sym, arith}
use Rattle.std.proofs.lemmas.Bool.Decides.{nat_tests}
use Rattle.std.proofs.lemmas.List.{length-map, nil_from_length}
use Rattle.std.specs.List.{position_or_len}
use Rattle.std.specs.Str.{bytes_eq}
use Rattle.rtgs_book.specs.declared.change.RowChange.TheVariants.{AddOrder}
use Rattle.rtgs_book.specs.declared.order.Order.{Order}
use Rattle.rtgs_book.specs.Books.{is_queued}
use Rattle.rtgs_book.specs.Queue.{queued_among}
use Rattle.rtgs_book.specs.cores.Following.{core_after_row}
use Rattle.rtgs_records.specs.accounts.Accounts.{code_of}
use Rattle.rtgs_records.specs.Records.{core_in}
use Rattle.rtgs_ledger.specs.Choosing.{payment_in}
use Rattle.rtgs_ledger.specs.Limits.{Lowers}
use Rattle.rtgs_ledger.proofs.Inputs.{queued_waits}
use Rattle.rtgs_ledger.proofs.Appending.{begins_queue, stands_behind}
use Rattle.rtgs_ledger.proofs.ledger.lowering.appending.Goals as goal
use Rattle.rtgs_ledger.proofs.ledger.lowering.appending.Goals.{After-queue}

-- what is known once the sender's queue is read: as many orders are queued as numbers
many : (c : After-queue) → length c.queue.result.now ≡ length (queued_among c.args.records.now.orders.orders
    c.args.order.now.sender)
many c = ap length c.queue.ensures.numbers
    ∙ length-map (queued_among c.args.records.now.orders.orders c.args.order.now.sender) (λ (o : Order). o.number)

-- the order is queued, its sender has an account, and it is not the receiver
queued : (c : After-queue) → is_queued c.args.order.now ≡ true
queued c = sym c.is_queued.ensures ∙ c.if-not-is_queued.false

inside : (c : After-queue) → position_or_len (bytes_eq c.args.order.now.sender)
    (map code_of c.args.records.now.accounts.accounts) < length c.args.records.now.accounts.accounts
inside c = omega
    (arith, c.index_of-sender.ensures, ap length c.as_slice-accounts.ensures.value, c.if-sender-accounts.false)

apart : (c : After-queue) → (payment_in (core_in c.args.records.now) c.args.order.now).receiver
    ≡ position_or_len (bytes_eq c.args.order.now.sender) (map code_of c.args.records.now.accounts.accounts) → ⊥
apart c same = omega
    (arith, same, c.index_of-sender.ensures, c.index_of-receiver.ensures, c.if-sender-receiver.false)

pub returns-then-is_empty : goal.returns-then-is_empty
returns-then-is_empty c =
    let core = core_in c.args.records.now in
    let o = c.args.order.now in
    let here = (goal.at.returns-then-is_empty c).After-queue in
    let test = sym c.is_empty.ensures ∙ c.if-is_empty.true in
    let none : length c.queue.result.now ≡ 0 = grind (arith, nat_tests, test) in
    subst (Lowers core (core_after_row core (AddOrder o))) (λ i. record {
      index = sym c.index_of-receiver.ensures i;
      cents = sym c.cents-cents.ensures.value i;
      begins = Some (sym c.index_of-sender.ensures i);
      empties = None;
    }) (begins_queue c.appended_within_slack.ensures core o c.as_slice-accounts.ensures.of_a_book.ordered (queued here)
    (queued_waits o.state (queued here)) (inside here) (apart here)
    (nil_from_length (queued_among core.waiting o.sender) (sym (many here) ∙ none)))

pub returns : goal.returns
returns c =
    let core = core_in c.args.records.now in
    let o = c.args.order.now in
    let here = (goal.at.returns c).After-queue in
    let test = sym c.is_empty.ensures ∙ c.if-is_empty.false in
    let some : 0 < length c.queue.result.now = grind (arith, nat_tests, test) in
    subst (Lowers core (core_after_row core (AddOrder o))) (λ i. record {
      index = sym c.index_of-receiver.ensures i;
      cents = sym c.cents-cents.ensures.value i;
      begins = None;
      empties = None;
    }) (stands_behind c.appended_within_slack.ensures core o c.as_slice-accounts.ensures.of_a_book.ordered (queued here)
    (queued_waits o.state (queued here)) (inside here) (apart here)
    (λ none. omega (arith, some, many here, ap length none)))
