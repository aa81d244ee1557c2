use Rattle.rtgs_rows.proofs.Unique.{once}
use Rattle.rtgs_rows.proofs.laws.rows_tell_the_book.Goals as goal

pub returns : goal.returns
returns c one other content same h k e = once c.dates_have_distinct_texts.ensures one other content same h k e
