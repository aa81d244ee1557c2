-- Each refusal of a run ends it with a status.
use Rattle.std.proofs.Common.{IsSome, refl}
use Rattle.rtgs_refusals.specs.Table.{entry_of}
use Rattle.rtgs_money.specs.Lexical.{lexical_kind_of}
use Rattle.rtgs_money.specs.declared.lexical.Lexical.{Lexical}
use Rattle.rtgs_money.specs.declared.lexical.Lexical.TheVariants as lexical
use Rattle.rtgs_book.specs.Refusals.{refusal_kind_of, fault_kind_of}
use Rattle.rtgs_book.specs.declared.refusal.Refusal.{Refusal}
use Rattle.rtgs_book.specs.declared.refusal.Refusal.TheVariants as refusal
use Rattle.rtgs_book.specs.declared.fault.Fault.{Fault}
use Rattle.rtgs_book.specs.declared.fault.Fault.TheVariants as fault
use Rattle.rtgs_order_files.specs.BatchFaults.{batch_kind_of}
use Rattle.rtgs_order_files.specs.declared.batch_fault.BatchFault.{BatchFault}
use Rattle.rtgs_order_files.specs.declared.batch_fault.BatchFault.TheVariants as batch
use Rattle.rtgs_cli_lines.specs.declared.failure.Failure.{Failure}
use Rattle.rtgs_cli_lines.specs.declared.failure.Failure.TheVariants.{Form, Refused, Opening, InUse, FileExists}
use Rattle.rtgs_cli_lines.specs.declared.failure.Failure.TheVariants.{Orders, OrdersTooLong, NoOrders, NoListen}
use Rattle.rtgs_cli_lines.specs.Failures.{failure_entry_of}

form_ends : (form : Lexical) → IsSome (entry_of (lexical_kind_of form)).exit_status
form_ends lexical.BadCode = refl
form_ends lexical.BadReference = refl
form_ends lexical.BadAmount = refl
form_ends lexical.BadName = refl
form_ends lexical.BadKey = refl
form_ends lexical.BadDate = refl

refusal_ends : (refusal : Refusal) → IsSome (entry_of (refusal_kind_of refusal)).exit_status
refusal_ends refusal.UnknownParticipant = refl
refusal_ends refusal.UnknownReceiver = refl
refusal_ends refusal.SameParty = refl
refusal_ends refusal.ReferenceUsed = refl
refusal_ends refusal.NotOpen = refl
refusal_ends refusal.NoCover = refl
refusal_ends refusal.QueueFull = refl
refusal_ends refusal.NumbersUsedUp = refl
refusal_ends refusal.UnknownOrder = refl
refusal_ends refusal.CodeTaken = refl
refusal_ends refusal.KeyTaken = refl
refusal_ends refusal.TooManyParticipants = refl
refusal_ends refusal.TotalTooLarge = refl
refusal_ends refusal.WrongPhase = refl
refusal_ends refusal.WrongDate = refl
refusal_ends refusal.Weekend = refl
refusal_ends refusal.NotQueued = refl
refusal_ends refusal.Resolvable = refl
refusal_ends (refusal.Overdrawn first count) = refl
refusal_ends refusal.DueNotLater = refl
refusal_ends refusal.OutOfMemory = refl
refusal_ends refusal.StoreFault = refl
refusal_ends refusal.Failed = refl

fault_ends : (fault : Fault) → IsSome (entry_of (fault_kind_of fault)).exit_status
fault_ends fault.OutOfMemory = refl
fault_ends fault.StoreFault = refl
fault_ends fault.NotADeskFile = refl
fault_ends (fault.Inconsistent rule) = refl

batch_ends : (fault : BatchFault) → IsSome (entry_of (batch_kind_of fault)).exit_status
batch_ends batch.BadHeader = refl
batch_ends (batch.BadRow row) = refl
batch_ends batch.BadCount = refl
batch_ends batch.OutOfMemory = refl

pub failure_ends : (failure : Failure) → IsSome (failure_entry_of failure).exit_status
failure_ends (Form form) = form_ends form
failure_ends (Refused refusal) = refusal_ends refusal
failure_ends (Opening fault) = fault_ends fault
failure_ends InUse = refl
failure_ends FileExists = refl
failure_ends (Orders fault) = batch_ends fault
failure_ends OrdersTooLong = refl
failure_ends NoOrders = refl
failure_ends NoListen = refl
