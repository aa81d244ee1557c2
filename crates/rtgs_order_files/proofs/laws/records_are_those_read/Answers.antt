use Rattle.rtgs_order_files.proofs.ReaderSteps.{all_records}
use Rattle.rtgs_order_files.proofs.laws.records_are_those_read.Goals as goal

pub returns : goal.returns
returns c = all_records
