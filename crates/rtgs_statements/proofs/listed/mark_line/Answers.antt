use Rattle.std.proofs.Common.{rules}
use Rattle.rtgs_statements.specs.Listings.{csv_line}
use Rattle.rtgs_statements.proofs.listed.mark_line.Goals as goal

pub returns : goal.returns
unfolding csv_line
returns c = search rules
