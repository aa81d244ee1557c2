use Rattle.rtgs_promises.proofs.program.what_is_committed_is_left.Goals as goal

pub returns-clause-stays : goal.returns-clause-stays
returns-clause-stays g c = g.met.S.Store.stays

pub returns-clause-settled : goal.returns-clause-settled
returns-clause-settled g c = g.met.S.Store.settled
