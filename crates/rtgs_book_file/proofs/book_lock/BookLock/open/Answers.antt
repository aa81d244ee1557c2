use Rattle.rtgs_book_file.proofs.Causes.{shows_none, opens_none}
use Rattle.rtgs_book_file.proofs.book_lock.BookLock.open.Goals as goal

pub returns-in-Err-clause-refused : goal.returns-in-Err-clause-refused
returns-in-Err-clause-refused g c =
    rw c.of.ensures.reported (shows_none _ _ _ (λ closed. closed.files.value) c.in-Err.cause c.in-Err.ensures.refused)

pub returns-in-Err-clause-unopened : goal.returns-in-Err-clause-unopened
returns-in-Err-clause-unopened g c =
    rw c.of.ensures.reported (opens_none _ _ _ (λ closed. closed.files.value) c.in-Err.cause c.in-Err.ensures.refused)
