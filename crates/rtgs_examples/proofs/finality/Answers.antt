use Rattle.rtgs_examples.proofs.Computed.{finality_comes}
use Rattle.rtgs_examples.proofs.finality.Goals as goal

pub returns : goal.returns
returns c = finality_comes
