use Rattle.std.proofs.Common.{◌≡◌, ◌+◌, ◌-◌, ◌<◌, length, map, sym, ap, ◌∙◌, rules}
use Rattle.std.proofs.Math.ListN.{set}
use Rattle.rtgs_book.specs.Books.{is_held}
use Rattle.rtgs_book.specs.Commands.{entered, is_held_with}
use Rattle.rtgs_book.specs.Settle.{altered}
use Rattle.rtgs_tests_desks.proofs.in_memory.OrderNumbers.{counts, one_altered, none_altered}
use Rattle.rtgs_tests_desks.proofs.in_memory.memory_keeper.enter_queue.Goals as goal

pub returns-then-contains : goal.returns-then-contains
returns-then-contains c = λ numbered.
    let place : 1 + (c.args.number - 1) ≡ c.args.number = search rules in
    let within : c.args.number - 1 < length c.args.orders.now = search rules in
    ap (set c.args.orders.now (c.args.number - 1)) c.enter.ensures
    ∙ one_altered is_held 1 (c.args.number - 1) c.index-orders-number.result (entered c.args.date) c.args.orders.now
    (counts c.args.orders.now numbered) within
    ∙ ap (λ n. map (altered (is_held_with n) (entered c.args.date)) c.args.orders.now) place

pub returns-else-contains : goal.returns-else-contains
returns-else-contains c = λ numbered. sym (none_altered is_held 1 c.args.number (entered c.args.date)
    c.args.orders.now (counts c.args.orders.now numbered) (λ k within is. search rules))
