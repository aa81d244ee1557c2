use Rattle.rtgs_store_trials.proofs.tests.scripts.ledgers.ledger_of.Goals as goal

pub load-requires : goal.load-requires
load-requires g c = (c.in-Ok.ensures.read.0, c.in-Ok.ensures.read.1)
