use Rattle.std.proofs.Common.{sym, subst}
use Rattle.rtgs_book_file.specs.Closed.{LeavesNoMore}
use Rattle.rtgs_book_file.proofs.abandoned_book.AbandonedBook.of.Goals as goal

pub returns : goal.returns
returns g c = subst (λ files. LeavesNoMore c.args.conn files.value) (sym c.files.ensures)
    (subst (LeavesNoMore c.args.conn) (sym c.of-gone.ensures) c.abandoned_files.ensures)
