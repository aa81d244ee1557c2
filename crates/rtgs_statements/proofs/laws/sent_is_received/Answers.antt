use Rattle.rtgs_statements.proofs.Agreement.{sent_as_received}
use Rattle.rtgs_statements.proofs.laws.sent_is_received.Goals as goal

pub returns : goal.returns
returns c = sent_as_received
