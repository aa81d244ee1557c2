use Rattle.rtgs_examples.proofs.Computed.{deadlock_comes}
use Rattle.rtgs_examples.proofs.deadlock.Goals as goal

pub returns : goal.returns
returns c = deadlock_comes c.procedure_finds_the_greatest.ensures
