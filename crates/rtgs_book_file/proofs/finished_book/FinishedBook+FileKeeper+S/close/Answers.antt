use Rattle.std.proofs.Common.{◌∙◌, ap, subst}
use Rattle.rtgs_book_file.specs.Closed.{LeavesClosed}
use Rattle.rtgs_book_file.proofs.finished_book.FinishedBook+FileKeeper+S.close.Goals as goal

pub returns-clause-closed : goal.returns-clause-closed
returns-clause-closed g c =
    let same = c.into_connection.ensures ∙ ap (λ keeper. keeper.conn) c.into_keeper.ensures in
    let files = c.copied.result.files in
    subst (λ conn. LeavesClosed conn files) same c.copied.ensures.closed
