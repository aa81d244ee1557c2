use Rattle.rtgs_examples.proofs.Computed.{ring_comes}
use Rattle.rtgs_examples.proofs.ring.Goals as goal

pub returns : goal.returns
returns c = ring_comes c.procedure_finds_the_greatest.ensures
