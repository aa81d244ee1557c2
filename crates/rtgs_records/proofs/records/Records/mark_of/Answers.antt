use Rattle.std.proofs.Common.{arith}
use Rattle.std.proofs.lemmas.Grind.{common_steps}
use Rattle.rtgs_records.proofs.records.Records.mark_of.Goals as goal

pub loop-order-preserved : goal.loop-order-preserved
loop-order-preserved c = grind (arith, common_steps)

pub returns : goal.returns
returns c = grind (arith, common_steps)
