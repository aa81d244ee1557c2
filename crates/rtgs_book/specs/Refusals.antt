-- What each refusal of a command, and each fault of a book, is known by.
use Rattle.rtgs_refusals.specs.declared.refusal_kind.RefusalKind.{RefusalKind}
use Rattle.rtgs_refusals.specs.declared.refusal_kind.RefusalKind.TheVariants as kind
use Rattle.rtgs_book.specs.declared.refusal.Refusal.{Refusal}
use Rattle.rtgs_book.specs.declared.refusal.Refusal.TheVariants as refusal
use Rattle.rtgs_book.specs.declared.fault.Fault.{Fault}
use Rattle.rtgs_book.specs.declared.fault.Fault.TheVariants as fault

abbrev pub refusal_kind_of : Refusal → RefusalKind
refusal_kind_of refusal.UnknownParticipant = kind.UnknownParticipant
refusal_kind_of refusal.UnknownReceiver = kind.UnknownReceiver
refusal_kind_of refusal.SameParty = kind.SameParty
refusal_kind_of refusal.ReferenceUsed = kind.ReferenceUsed
refusal_kind_of refusal.NotOpen = kind.NotOpen
refusal_kind_of refusal.NoCover = kind.NoCover
refusal_kind_of refusal.QueueFull = kind.QueueFull
refusal_kind_of refusal.NumbersUsedUp = kind.NumbersUsedUp
refusal_kind_of refusal.UnknownOrder = kind.UnknownOrder
refusal_kind_of refusal.CodeTaken = kind.CodeTaken
refusal_kind_of refusal.KeyTaken = kind.KeyTaken
refusal_kind_of refusal.TooManyParticipants = kind.TooManyParticipants
refusal_kind_of refusal.TotalTooLarge = kind.TotalTooLarge
refusal_kind_of refusal.WrongPhase = kind.WrongPhase
refusal_kind_of refusal.WrongDate = kind.WrongDate
refusal_kind_of refusal.Weekend = kind.Weekend
refusal_kind_of refusal.NotQueued = kind.NotQueued
refusal_kind_of refusal.Resolvable = kind.Resolvable
refusal_kind_of (refusal.Overdrawn first count) = kind.Overdrawn
refusal_kind_of refusal.DueNotLater = kind.DueNotLater
refusal_kind_of refusal.OutOfMemory = kind.OutOfMemory
refusal_kind_of refusal.StoreFault = kind.StoreFault
refusal_kind_of refusal.Failed = kind.Failed

abbrev pub fault_kind_of : Fault → RefusalKind
fault_kind_of fault.OutOfMemory = kind.OutOfMemory
fault_kind_of fault.StoreFault = kind.StoreFault
fault_kind_of fault.NotADeskFile = kind.NotADeskFile
fault_kind_of (fault.Inconsistent rule) = kind.Inconsistent
