use Rattle.rtgs_rows.proofs.NewBook.{is_new}
use Rattle.rtgs_rows.proofs.laws.first_rows_are_the_new_book.Goals as goal

pub returns : goal.returns
returns c = is_new c.new_book_is_sound.ensures
