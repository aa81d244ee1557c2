use Rattle.std.proofs.Common.{◌≡◌, IfOk, subst}
use Rattle.rtgs_book_file.proofs.Starting.{on_ok}
use Rattle.rtgs_book_file.proofs.open_book.make_book.Goals as goal

pub returns-clause-started : goal.returns-clause-started
returns-clause-started g c = on_ok c.make_tables.result c.in_ok-make_database.ensures.started

pub returns-clause-held : goal.returns-clause-held
returns-clause-held g c =
    subst (λ lock. IfOk c.make_tables.result (λ closed. closed.name.value ≡ lock.locked.name)) c.in_ok-file.ensures.same
    c.make_tables.ensures.held
