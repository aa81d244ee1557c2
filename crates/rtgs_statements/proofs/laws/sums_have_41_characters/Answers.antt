use Rattle.rtgs_statements.proofs.Widths.{sum_long}
use Rattle.rtgs_statements.proofs.laws.sums_have_41_characters.Goals as goal

pub returns : goal.returns
returns c = sum_long
