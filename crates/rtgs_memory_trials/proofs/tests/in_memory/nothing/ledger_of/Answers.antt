use Rattle.rtgs_memory_trials.proofs.tests.in_memory.nothing.ledger_of.Goals as goal

pub load-requires : goal.load-requires
load-requires g c = (c.in-Ok.ensures.read.0, c.in-Ok.ensures.read.1)
