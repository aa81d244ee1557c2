use Rattle.std.proofs.Common.{sym}
use Rattle.rtgs_book_file.proofs.abandoned_book.abandoned_files.Goals as goal

pub returns : goal.returns
returns g c =
    let it = c.into_store.ensures in
    (c.into_store.result, record { quiet = it.quiet; sound = it.sound }, sym c.close.ensures)
