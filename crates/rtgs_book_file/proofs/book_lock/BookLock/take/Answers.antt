use Rattle.rtgs_book_file.proofs.Causes.{not_locked_opens_none, not_locked_makes_none}
use Rattle.rtgs_book_file.proofs.book_lock.BookLock.take.Goals as goal

pub returns-in-Err-clause-unopened : goal.returns-in-Err-clause-unopened
returns-in-Err-clause-unopened g c =
    rw c.of.ensures.reported (not_locked_opens_none _ _ _ c.in-Err.refused.fault c.in-Err.ensures.refused)

pub returns-in-Err-clause-unmade : goal.returns-in-Err-clause-unmade
returns-in-Err-clause-unmade g c =
    rw c.of.ensures.reported (not_locked_makes_none _ _ _ c.in-Err.refused.fault c.in-Err.ensures.refused)
