use Rattle.rtgs_cli.proofs.files.close_book.Goals as goal

pub returns-in-Ok-clause-done : goal.returns-in-Ok-clause-done
returns-in-Ok-clause-done g c = (c.in-Ok.book, c.in-Ok.is, c.close.ensures.closed, c.close.ensures.at)
