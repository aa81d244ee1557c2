use Rattle.rtgs_book.proofs.Balances.{balance-with_posting}
use Rattle.rtgs_book.proofs.laws.balance_after_posting.Goals as goal

pub returns : goal.returns
returns c = balance-with_posting
