use Rattle.rtgs_keeper_trials.proofs.tests.stored_desk.opened.Goals as goal

pub returns-in-Ok-clause-held : goal.returns-in-Ok-clause-held
returns-in-Ok-clause-held g c clean is_open book tables = (c.in-Ok.ensures.opened clean is_open).held book tables
