use Rattle.rtgs_book.proofs.Balances.{balance-with_appended}
use Rattle.rtgs_book.proofs.laws.balance_after_order.Goals as goal

pub returns : goal.returns
returns c = balance-with_appended
