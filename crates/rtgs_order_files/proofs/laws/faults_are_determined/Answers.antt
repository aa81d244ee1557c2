use Rattle.rtgs_order_files.proofs.OrderFiles.{one_fault}
use Rattle.rtgs_order_files.proofs.laws.faults_are_determined.Goals as goal

pub returns : goal.returns
returns c = one_fault
