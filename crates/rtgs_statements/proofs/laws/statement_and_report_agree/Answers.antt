use Rattle.rtgs_statements.proofs.Agreement.{agree}
use Rattle.rtgs_statements.proofs.laws.statement_and_report_agree.Goals as goal

pub returns : goal.returns
returns c = agree
