use Rattle.rtgs_book.proofs.Magnitudes.{balances_small}
use Rattle.rtgs_book.proofs.laws.balances_are_small.Goals as goal

pub returns : goal.returns
returns c = balances_small
