use Rattle.rtgs_book.proofs.Waiting.{few_wait}
use Rattle.rtgs_book.proofs.laws.few_orders_wait.Goals as goal

pub returns : goal.returns
returns c = few_wait
