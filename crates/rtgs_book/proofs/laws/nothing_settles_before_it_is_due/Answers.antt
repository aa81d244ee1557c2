use Rattle.rtgs_book.proofs.Dues.{nothing_early}
use Rattle.rtgs_book.proofs.laws.nothing_settles_before_it_is_due.Goals as goal

pub returns : goal.returns
returns c = nothing_early
