use Rattle.std.proofs.Common.{◌≡◌, ◌≢◌, ◌∙◌, ◌++◌, ◌∷◌, [], pos, length, sym, ap, refl, arith}
use Rattle.std.proofs.lemmas.Bool.Decides.{nat_tests}
use Rattle.std.proofs.lemmas.List.{append-nil}
use Rattle.rtgs_book.specs.declared.receiver_reading.ReceiverReading.{ReceiverReading}
use Rattle.rtgs_desk.specs.Readings.{value_of}
use Rattle.rtgs_desk.proofs.QueueLemmas.{no_receiver, some_receiver}
use Rattle.rtgs_desk.proofs.queues.add_receiver.Goals as goal

pub returns-then-is_empty : goal.returns-then-is_empty
returns-then-is_empty c =
    let test = sym c.is_empty.ensures ∙ c.if-is_empty.true in
    let none : length c.args.orders.now ≡ 0 = grind (arith, nat_tests, test) in
    sym (append-nil c.args.receivers.now.items)
    ∙ ap (λ more. c.args.receivers.now.items ++ more) (sym (no_receiver c.args.code c.args.orders.now none))

pub returns : goal.returns
returns c =
    let test = sym c.is_empty.ensures ∙ c.if-is_empty.false in
    let some : length c.args.orders.now ≢ 0 = λ none. absurd (grind (arith, nat_tests, test, none)) in
    let reading : ReceiverReading = record {
      queued = length c.args.orders.now;
      queued_value = pos (value_of c.args.orders.now);
      to = c.args.code;
    } in
    c.in_ok-push.ensures.items
    ∙ (λ j. c.args.receivers.now.items ++ record {
      queued = length c.args.orders.now;
      queued_value = c.value_of.ensures j;
      to = c.args.code;
    } ∷ [])
    ∙ ap (λ more. c.args.receivers.now.items ++ more)
    (some_receiver c.args.code c.args.orders.now reading some refl)
