use Rattle.rtgs_book_file.proofs.Starting.{copied, found, not_made}
use Rattle.rtgs_book_file.proofs.small_pages.make_in.Goals as goal

pub returns-in-Ok-clause-started : goal.returns-in-Ok-clause-started
returns-in-Ok-clause-started g c =
    copied _ _ c.in-Ok.store c.copy_log.result c.in-Ok.ensures.made c.copy_log.ensures.copied

pub returns-in-Err-clause-started : goal.returns-in-Err-clause-started
returns-in-Err-clause-started g c =
    found _ _ c.in-Err.error c.unless_made.result c.in-Err.ensures.more c.unless_made.ensures.made

pub returns-in-Err-clause-refused : goal.returns-in-Err-clause-refused
returns-in-Err-clause-refused g c = not_made c.in-Err.error c.unless_made.result c.unless_made.ensures.refused
