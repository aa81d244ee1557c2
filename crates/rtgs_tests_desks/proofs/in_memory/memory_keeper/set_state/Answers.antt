use Rattle.std.proofs.Common.{◌≡◌, true, ◌+◌, ◌-◌, ◌<◌, length, map, sym, ap, ◌∙◌, rules}
use Rattle.rtgs_book.specs.Commands.{has_number}
use Rattle.rtgs_book.specs.Settle.{in_state, restated}
use Rattle.rtgs_tests_desks.proofs.in_memory.OrderNumbers.{counts, one_altered, none_altered}
use Rattle.rtgs_tests_desks.proofs.in_memory.memory_keeper.set_state.Goals as goal

pub returns-then-contains : goal.returns-then-contains
returns-then-contains c = λ numbered.
    let place : 1 + (c.args.number - 1) ≡ c.args.number = search rules in
    let within : c.args.number - 1 < length c.args.orders.now = search rules in
    one_altered (λ o. true) 1 (c.args.number - 1) c.index-orders-number.result (in_state c.args.state)
    c.args.orders.now (counts c.args.orders.now numbered) within ∙ ap (λ n. map (restated (has_number n) c.args.state)
    c.args.orders.now) place

pub returns-else-contains : goal.returns-else-contains
returns-else-contains c = λ numbered. sym (none_altered (λ o. true) 1 c.args.number (in_state c.args.state)
    c.args.orders.now (counts c.args.orders.now numbered) (λ k within is. search rules))
