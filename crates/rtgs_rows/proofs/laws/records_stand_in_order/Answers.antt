use Rattle.rtgs_rows.proofs.Querying.{book_in_order}
use Rattle.rtgs_rows.proofs.laws.records_stand_in_order.Goals as goal

pub returns : goal.returns
returns c book content of = book_in_order book content of
