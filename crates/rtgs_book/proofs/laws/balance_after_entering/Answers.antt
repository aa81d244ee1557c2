use Rattle.rtgs_book.proofs.Balances.{balance-let_in}
use Rattle.rtgs_book.proofs.laws.balance_after_entering.Goals as goal

pub returns : goal.returns
returns c = balance-let_in
