use Rattle.rtgs_examples.proofs.Computed.{close_with_gridlock_comes}
use Rattle.rtgs_examples.proofs.close_with_gridlock.Goals as goal

pub returns : goal.returns
returns c = close_with_gridlock_comes c.procedure_finds_the_greatest.ensures
