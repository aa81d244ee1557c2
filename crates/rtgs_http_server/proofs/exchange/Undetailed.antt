-- Faults whose reply has the number and the name alone.
use Rattle.std.proofs.Common.{◌≡◌, refl}
use Rattle.rtgs_order_files.specs.declared.batch_fault.BatchFault.{BatchFault}
use Rattle.rtgs_http_bodies.specs.replies.Kinds.{kind_message}
use Rattle.rtgs_http_requests.specs.Faults.{http_kind_of}
use Rattle.rtgs_http_requests.specs.declared.http_fault.HttpFault.{HttpFault}
use Rattle.rtgs_http_requests.specs.declared.http_fault.HttpFault.TheVariants.{BadHead, HeadTooLong, NoLength}
use Rattle.rtgs_http_requests.specs.declared.http_fault.HttpFault.TheVariants.{BodyTooLong, Truncated, BadJson}
use Rattle.rtgs_http_requests.specs.declared.http_fault.HttpFault.TheVariants.{WrongFields, NoSuchRoute, NoKey, Form}
use Rattle.rtgs_http_requests.specs.declared.http_fault.HttpFault.TheVariants.{Batch, OutOfMemory}
use Rattle.rtgs_http_server.specs.exchange.ReplyMessages.{fault_message}

pub undetailed : (fault : HttpFault) → ((bad : BatchFault) → fault ≡ Batch bad → ⊥)
    → fault_message fault ≡ kind_message (http_kind_of fault)
undetailed BadHead h = refl
undetailed HeadTooLong h = refl
undetailed NoLength h = refl
undetailed BodyTooLong h = refl
undetailed Truncated h = refl
undetailed BadJson h = refl
undetailed WrongFields h = refl
undetailed NoSuchRoute h = refl
undetailed NoKey h = refl
undetailed (Form form) h = refl
undetailed (Batch bad) h = absurd (h bad refl)
undetailed OutOfMemory h = refl
