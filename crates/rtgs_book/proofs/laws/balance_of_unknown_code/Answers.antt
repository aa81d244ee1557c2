use Rattle.rtgs_book.proofs.Unknown.{balance_of_unknown}
use Rattle.rtgs_book.proofs.laws.balance_of_unknown_code.Goals as goal

pub returns : goal.returns
returns c = balance_of_unknown
