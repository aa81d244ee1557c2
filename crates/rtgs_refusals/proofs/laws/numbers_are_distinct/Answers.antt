use Rattle.rtgs_refusals.proofs.Numbers.{same_kind}
use Rattle.rtgs_refusals.proofs.laws.numbers_are_distinct.Goals as goal

pub returns : goal.returns
returns c = same_kind
