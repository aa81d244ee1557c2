use Rattle.rtgs_book.proofs.Balances.{balance-restated}
use Rattle.rtgs_book.proofs.laws.balance_after_restating.Goals as goal

pub returns : goal.returns
returns c = balance-restated
