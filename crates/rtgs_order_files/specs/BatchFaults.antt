-- What each fault of an order file is known by.
use Rattle.rtgs_refusals.specs.declared.refusal_kind.RefusalKind.{RefusalKind}
use Rattle.rtgs_refusals.specs.declared.refusal_kind.RefusalKind.TheVariants as kind
use Rattle.rtgs_order_files.specs.declared.batch_fault.BatchFault.{BatchFault}
use Rattle.rtgs_order_files.specs.declared.batch_fault.BatchFault.TheVariants.{BadHeader, BadRow, BadCount, OutOfMemory}

abbrev pub batch_kind_of : BatchFault → RefusalKind
batch_kind_of BadHeader = kind.BadHeader
batch_kind_of (BadRow row) = kind.BadRow
batch_kind_of BadCount = kind.BadCount
batch_kind_of OutOfMemory = kind.OutOfMemory
