use Rattle.std.proofs.Common.{arith}
use Rattle.std.proofs.lemmas.Grind.{common_steps}
use Rattle.rtgs_records.proofs.records.Records.settles_at_once.Goals as goal

pub returns-then-is_empty-clause-value : goal.returns-then-is_empty-clause-value
returns-then-is_empty-clause-value c = grind (arith, common_steps)

pub returns-then-is_empty-clause-fits : goal.returns-then-is_empty-clause-fits
returns-then-is_empty-clause-fits c = grind (arith, common_steps)

pub returns-else-is_empty-clause-value : goal.returns-else-is_empty-clause-value
returns-else-is_empty-clause-value c = grind (arith, common_steps)

pub returns-else-is_empty-clause-fits : goal.returns-else-is_empty-clause-fits
returns-else-is_empty-clause-fits c = grind (arith, common_steps)
