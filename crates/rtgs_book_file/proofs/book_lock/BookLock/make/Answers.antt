use Rattle.rtgs_book_file.proofs.Causes.{bars, not_made}
use Rattle.rtgs_book_file.proofs.book_lock.BookLock.make.Goals as goal

pub returns-in-Err-clause-refused : goal.returns-in-Err-clause-refused
returns-in-Err-clause-refused g c =
    rw c.of.ensures.reported (bars _ _ _ (λ closed. closed.files.value) c.in-Err.cause c.in-Err.ensures.refused)

pub returns-in-Err-clause-unmade : goal.returns-in-Err-clause-unmade
returns-in-Err-clause-unmade g c =
    rw c.of.ensures.reported
    (not_made _ _ _ _ (bars _ _ _ (λ closed. closed.files.value) c.in-Err.cause c.in-Err.ensures.refused))
