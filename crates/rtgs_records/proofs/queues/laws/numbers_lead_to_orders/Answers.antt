use Rattle.rtgs_records.proofs.queues.Numbering.{numbered_from, rising_from}
use Rattle.rtgs_records.proofs.queues.Reading.{found_by_number}
use Rattle.rtgs_records.proofs.queues.laws.numbers_lead_to_orders.Goals as goal

pub returns : goal.returns
returns c book numbered = found_by_number book.orders (rising_from 1 book.orders (numbered_from book numbered))
