use Rattle.rtgs_order_files.proofs.OrderFiles.{one_file}
use Rattle.rtgs_order_files.proofs.laws.rows_are_determined.Goals as goal

pub returns : goal.returns
returns c = one_file c.dates_have_distinct_texts.ensures
