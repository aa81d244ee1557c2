use Rattle.std.proofs.Common.{rules, append_assoc}
use Rattle.rtgs_statements.specs.Listings.{csv_line}
use Rattle.rtgs_statements.proofs.line.Line.text.Goals as goal

pub returns-in-StatementOf : goal.returns-in-StatementOf
returns-in-StatementOf c = rw c.in-StatementOf.is (simp append_assoc (search rules))

pub returns-in-OrdersHeader : goal.returns-in-OrdersHeader
unfolding csv_line
returns-in-OrdersHeader c = rw c.in-OrdersHeader.is (search rules)

pub returns-in-MarksHeader : goal.returns-in-MarksHeader
unfolding csv_line
returns-in-MarksHeader c = rw c.in-MarksHeader.is (search rules)
