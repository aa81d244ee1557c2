use Rattle.rtgs_rows.proofs.Querying.{book_is_whole}
use Rattle.rtgs_rows.specs.declared.numbers.TheConstants.{VERSION}
use Rattle.rtgs_rows.proofs.laws.tables_of_a_book_are_whole.Goals as goal

pub returns : goal.returns
returns c trees book content holds of = book_is_whole VERSION content trees book holds of
