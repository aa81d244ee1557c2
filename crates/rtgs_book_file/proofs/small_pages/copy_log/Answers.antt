use Rattle.rtgs_book_file.proofs.small_pages.copy_log.Goals as goal

pub returns-in-Ok-clause-copied : goal.returns-in-Ok-clause-copied
returns-in-Ok-clause-copied g c = record {
  now = c.checkpoint.new.self;
  works = c.in-Ok.ensures.open;
  same = c.checkpoint.ensures.same;
  moved = c.in-Ok.ensures.moved;
}
