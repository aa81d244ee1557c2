use Rattle.rtgs_statements.proofs.Groups.{report-has_bytes, statement-has_bytes}
use Rattle.rtgs_statements.proofs.laws.texts_have_bytes.Goals as goal

pub returns : goal.returns
returns c = record {
  statement = statement-has_bytes;
  report = report-has_bytes;
}
