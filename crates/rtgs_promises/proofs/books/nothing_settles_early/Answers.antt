use Rattle.rtgs_promises.proofs.books.nothing_settles_early.Goals as goal

pub returns-clause-later : goal.returns-clause-later
returns-clause-later c start last commands replies sound run = c.nothing_settles_before_it_is_due.ensures last
    (c.run_keeps_soundness.ensures start last commands replies sound run)
