use Rattle.std.proofs.Common.{◌+◌, ◌<◌, length, arith}
use Rattle.rtgs_book.specs.declared.order.Order.{Order}
use Rattle.rtgs_book.specs.Books.{is_waiting}
use Rattle.rtgs_lists.proofs.Lists.{all_filter}
use Rattle.rtgs_records.proofs.queues.Numbering.{below_from, numbered_from, rising_from}
use Rattle.rtgs_records.proofs.queues.OrderLemmas.{are_waiting, rising_filter}
use Rattle.rtgs_records.proofs.queues.laws.waiting_orders_can_be_loaded.Goals as goal

pub returns-clause-rising : goal.returns-clause-rising
returns-clause-rising c book numbered = rising_filter is_waiting book.orders
    (rising_from 1 book.orders (numbered_from book numbered))

pub returns-clause-before : goal.returns-clause-before
returns-clause-before c book numbered = all_filter (λ (o : Order). o.number < length book.orders + 1) is_waiting
    book.orders (below_from 1 (length book.orders + 1) book.orders (numbered_from book numbered) (omega arith))

pub returns-clause-waiting : goal.returns-clause-waiting
returns-clause-waiting c book = are_waiting book.orders
