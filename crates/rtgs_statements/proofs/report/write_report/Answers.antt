use Rattle.rtgs_statements.proofs.Groups.{report-has_bytes}
use Rattle.rtgs_statements.proofs.Growth.{none-begun}
use Rattle.rtgs_statements.proofs.report.write_report.Goals as goal

pub returns-in-Err-clause-begun : goal.returns-in-Err-clause-begun
returns-in-Err-clause-begun g c honest book held =
    none-begun (g.W.Write.contents c.args.out.now) _ (report-has_bytes book c.args.date)
