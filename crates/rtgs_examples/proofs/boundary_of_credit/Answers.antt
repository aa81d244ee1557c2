use Rattle.rtgs_examples.proofs.Computed.{boundary_of_credit_comes}
use Rattle.rtgs_examples.proofs.boundary_of_credit.Goals as goal

pub returns : goal.returns
returns c = boundary_of_credit_comes
