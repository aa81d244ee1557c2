use Rattle.rtgs_order_files.proofs.OrderFiles.{file_or_fault}
use Rattle.rtgs_order_files.proofs.laws.order_files_have_no_fault.Goals as goal

pub returns : goal.returns
returns c = file_or_fault
