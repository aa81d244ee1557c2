use Rattle.rtgs_examples.proofs.Computed.{cascade_comes}
use Rattle.rtgs_examples.proofs.cascade.Goals as goal

pub returns : goal.returns
returns c = cascade_comes c.procedure_finds_the_greatest.ensures
