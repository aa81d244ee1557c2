use Rattle.rtgs_examples.proofs.Computed.{no_bypass_comes}
use Rattle.rtgs_examples.proofs.no_bypass.Goals as goal

pub returns : goal.returns
returns c = no_bypass_comes c.procedure_finds_the_greatest.ensures
