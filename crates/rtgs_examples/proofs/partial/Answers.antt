use Rattle.rtgs_examples.proofs.Computed.{partial_comes}
use Rattle.rtgs_examples.proofs.partial.Goals as goal

pub returns : goal.returns
returns c = partial_comes c.procedure_finds_the_greatest.ensures
