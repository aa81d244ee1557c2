use Rattle.rtgs_statements.proofs.Growth.{none-begun, line-has_bytes}
use Rattle.rtgs_statements.proofs.lines.write_line.Goals as goal

pub returns-in-Err-clause-begun : goal.returns-in-Err-clause-begun
returns-in-Err-clause-begun g c = none-begun (g.W.Write.contents c.args.out.now) _ (line-has_bytes c.args.line.now)
