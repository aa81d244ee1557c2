use Rattle.rtgs_book.proofs.Magnitudes.{total_small}
use Rattle.rtgs_book.proofs.laws.total_is_small.Goals as goal

pub returns : goal.returns
returns c = total_small
