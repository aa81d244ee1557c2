use Rattle.rtgs_rows.proofs.Blank.{no_book}
use Rattle.rtgs_rows.proofs.laws.no_tables_hold_no_book.Goals as goal

pub returns : goal.returns
returns c trees content none holds = no_book trees content none holds
