-- What a fault of a request is known by.
use Rattle.rtgs_refusals.specs.declared.refusal_kind.RefusalKind.{RefusalKind}
use Rattle.rtgs_refusals.specs.declared.refusal_kind.RefusalKind.TheVariants as kind
use Rattle.rtgs_money.specs.Lexical.{lexical_kind_of}
use Rattle.rtgs_order_files.specs.BatchFaults.{batch_kind_of}
use Rattle.rtgs_order_files.specs.declared.batch_fault.BatchFault.{BatchFault}
use Rattle.rtgs_order_files.specs.declared.batch_fault.BatchFault.TheVariants as batch
use Rattle.rtgs_http_requests.specs.declared.heads.head_fault.HeadFault.{HeadFault}
use Rattle.rtgs_http_requests.specs.declared.heads.head_fault.HeadFault.TheVariants as head
use Rattle.rtgs_http_requests.specs.declared.http_fault.HttpFault.{HttpFault}
use Rattle.rtgs_http_requests.specs.declared.http_fault.HttpFault.TheVariants as fault

abbrev pub http_kind_of : HttpFault → RefusalKind
http_kind_of fault.BadHead = kind.BadHead
http_kind_of fault.HeadTooLong = kind.HeadTooLong
http_kind_of fault.NoLength = kind.NoLength
http_kind_of fault.BodyTooLong = kind.BodyTooLong
http_kind_of fault.Truncated = kind.Truncated
http_kind_of fault.BadJson = kind.BadJson
http_kind_of fault.WrongFields = kind.WrongFields
http_kind_of fault.NoSuchRoute = kind.NoSuchRoute
http_kind_of fault.NoKey = kind.NoKey
http_kind_of (fault.Form form) = lexical_kind_of form
http_kind_of (fault.Batch bad) = batch_kind_of bad
http_kind_of fault.OutOfMemory = kind.OutOfMemory

-- a fault of a head among those of requests
abbrev pub of_head : HeadFault → HttpFault
of_head head.BadHead = fault.BadHead
of_head head.NoSuchRoute = fault.NoSuchRoute
of_head head.OutOfMemory = fault.OutOfMemory

-- a fault of an order file among those of requests
abbrev pub of_batch : BatchFault → HttpFault
of_batch batch.BadHeader = fault.Batch batch.BadHeader
of_batch (batch.BadRow row) = fault.Batch (batch.BadRow row)
of_batch batch.BadCount = fault.Batch batch.BadCount
of_batch batch.OutOfMemory = fault.OutOfMemory
