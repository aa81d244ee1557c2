use Rattle.rtgs_statements.proofs.Closings.{worked_back}
use Rattle.rtgs_statements.proofs.laws.balance_is_worked_back.Goals as goal

pub returns : goal.returns
returns c = worked_back
