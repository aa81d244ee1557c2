use Rattle.rtgs_statements.proofs.Agreement.{net_as_posted}
use Rattle.rtgs_statements.proofs.laws.net_is_posted.Goals as goal

pub returns : goal.returns
returns c = net_as_posted
