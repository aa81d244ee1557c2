use Rattle.std.proofs.Common.{sym, subst}
use Rattle.rtgs_book_file.specs.Closed.{LeavesClosed}
use Rattle.rtgs_book_file.proofs.file_on_disk.AnyBookFile.release.Goals as goal

pub returns-clause-closed : goal.returns-clause-closed
returns-clause-closed g c =
    let files = c.copied.result.files in
    let left = subst (λ conn. LeavesClosed conn files) c.into_connection.ensures c.copied.ensures.closed in
    subst (LeavesClosed c.args.keeper.conn) (sym c.release.ensures.files) left
