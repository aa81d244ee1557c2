use Rattle.std.proofs.Common.{◌&&◌}
use Rattle.std.specs.Str.{bytes_eq}
use Rattle.rtgs_book.specs.declared.order.Order.{Order}
use Rattle.rtgs_book.specs.Books.{is_queued}
use Rattle.rtgs_records.proofs.queues.Numbering.{numbered_from, rising_from}
use Rattle.rtgs_records.proofs.queues.OrderLemmas.{rising_filter}
use Rattle.rtgs_records.proofs.queues.laws.queues_rise.Goals as goal

pub returns : goal.returns
returns c book sender numbered = rising_filter (λ (o : Order). is_queued o && bytes_eq o.sender sender) book.orders
    (rising_from 1 book.orders (numbered_from book numbered))
