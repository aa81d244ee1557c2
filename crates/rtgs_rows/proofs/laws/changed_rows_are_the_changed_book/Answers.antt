use Rattle.rtgs_rows.proofs.Changed.{changes}
use Rattle.rtgs_rows.proofs.laws.changed_rows_are_the_changed_book.Goals as goal

pub returns : goal.returns
returns c old new rows content of change forms = changes old new rows content of change forms
