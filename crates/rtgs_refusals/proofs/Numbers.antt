-- Each number is one kind's.
use Rattle.std.proofs.Common.{◌≡◌, ℕ, nat_eq, List, [], ◌∷◌, refl, sym, ap, ◌∙◌}
use Rattle.std.specs.Prelude.{find, unwrap_or}
use Rattle.rtgs_refusals.specs.Table.{entry_of}
use Rattle.rtgs_refusals.specs.declared.refusal_kind.RefusalKind.{RefusalKind}
use Rattle.rtgs_refusals.specs.declared.refusal_kind.RefusalKind.TheVariants.{UnknownParticipant, UnknownReceiver}
use Rattle.rtgs_refusals.specs.declared.refusal_kind.RefusalKind.TheVariants.{SameParty, ReferenceUsed, NotOpen}
use Rattle.rtgs_refusals.specs.declared.refusal_kind.RefusalKind.TheVariants.{NoCover, QueueFull, NumbersUsedUp}
use Rattle.rtgs_refusals.specs.declared.refusal_kind.RefusalKind.TheVariants.{UnknownOrder, CodeTaken, KeyTaken}
use Rattle.rtgs_refusals.specs.declared.refusal_kind.RefusalKind.TheVariants.{TooManyParticipants, TotalTooLarge}
use Rattle.rtgs_refusals.specs.declared.refusal_kind.RefusalKind.TheVariants.{WrongPhase, WrongDate, Weekend, NotQueued}
use Rattle.rtgs_refusals.specs.declared.refusal_kind.RefusalKind.TheVariants.{Resolvable, Overdrawn, DueNotLater}
use Rattle.rtgs_refusals.specs.declared.refusal_kind.RefusalKind.TheVariants.{BadCode}
use Rattle.rtgs_refusals.specs.declared.refusal_kind.RefusalKind.TheVariants.{BadReference, BadAmount, BadName, BadKey}
use Rattle.rtgs_refusals.specs.declared.refusal_kind.RefusalKind.TheVariants.{BadDate, BadHeader, BadRow, BadCount}
use Rattle.rtgs_refusals.specs.declared.refusal_kind.RefusalKind.TheVariants.{BadHead, HeadTooLong, NoLength}
use Rattle.rtgs_refusals.specs.declared.refusal_kind.RefusalKind.TheVariants.{BodyTooLong, Truncated, BadJson}
use Rattle.rtgs_refusals.specs.declared.refusal_kind.RefusalKind.TheVariants.{WrongFields, NoSuchRoute, NoKey}
use Rattle.rtgs_refusals.specs.declared.refusal_kind.RefusalKind.TheVariants.{AnswerLost, OutOfMemory, StoreFault}
use Rattle.rtgs_refusals.specs.declared.refusal_kind.RefusalKind.TheVariants.{Failed, NotADeskFile, Inconsistent, InUse}
use Rattle.rtgs_refusals.specs.declared.refusal_kind.RefusalKind.TheVariants.{FileExists, NoListen, NoOrderFile}

abbrev kinds : List RefusalKind
kinds = UnknownParticipant ∷ UnknownReceiver ∷ SameParty ∷ ReferenceUsed ∷ NotOpen ∷ NoCover ∷ QueueFull
    ∷ NumbersUsedUp ∷ UnknownOrder ∷ CodeTaken ∷ KeyTaken ∷ TooManyParticipants ∷ TotalTooLarge ∷ WrongPhase
    ∷ WrongDate ∷ Weekend ∷ NotQueued ∷ Resolvable ∷ Overdrawn ∷ DueNotLater ∷ BadCode ∷ BadReference ∷ BadAmount
    ∷ BadName ∷ BadKey ∷ BadDate ∷ BadHeader ∷ BadRow ∷ BadCount ∷ BadHead ∷ HeadTooLong ∷ NoLength ∷ BodyTooLong
    ∷ Truncated ∷ BadJson ∷ WrongFields ∷ NoSuchRoute ∷ NoKey ∷ AnswerLost ∷ OutOfMemory ∷ StoreFault ∷ Failed
    ∷ NotADeskFile ∷ Inconsistent ∷ InUse ∷ FileExists ∷ NoListen ∷ NoOrderFile ∷ []

-- the kind with a number
abbrev numbered : ℕ → RefusalKind
numbered n = unwrap_or (find (λ kind. nat_eq (entry_of kind).number n) kinds) NoOrderFile

numbered_is : (kind : RefusalKind) → numbered (entry_of kind).number ≡ kind
numbered_is UnknownParticipant = refl
numbered_is UnknownReceiver = refl
numbered_is SameParty = refl
numbered_is ReferenceUsed = refl
numbered_is NotOpen = refl
numbered_is NoCover = refl
numbered_is QueueFull = refl
numbered_is NumbersUsedUp = refl
numbered_is UnknownOrder = refl
numbered_is CodeTaken = refl
numbered_is KeyTaken = refl
numbered_is TooManyParticipants = refl
numbered_is TotalTooLarge = refl
numbered_is WrongPhase = refl
numbered_is WrongDate = refl
numbered_is Weekend = refl
numbered_is NotQueued = refl
numbered_is Resolvable = refl
numbered_is Overdrawn = refl
numbered_is DueNotLater = refl
numbered_is BadCode = refl
numbered_is BadReference = refl
numbered_is BadAmount = refl
numbered_is BadName = refl
numbered_is BadKey = refl
numbered_is BadDate = refl
numbered_is BadHeader = refl
numbered_is BadRow = refl
numbered_is BadCount = refl
numbered_is BadHead = refl
numbered_is HeadTooLong = refl
numbered_is NoLength = refl
numbered_is BodyTooLong = refl
numbered_is Truncated = refl
numbered_is BadJson = refl
numbered_is WrongFields = refl
numbered_is NoSuchRoute = refl
numbered_is NoKey = refl
numbered_is AnswerLost = refl
numbered_is OutOfMemory = refl
numbered_is StoreFault = refl
numbered_is Failed = refl
numbered_is NotADeskFile = refl
numbered_is Inconsistent = refl
numbered_is InUse = refl
numbered_is FileExists = refl
numbered_is NoListen = refl
numbered_is NoOrderFile = refl

pub same_kind : (one other : RefusalKind) → (entry_of one).number ≡ (entry_of other).number → one ≡ other
same_kind one other same = sym (numbered_is one) ∙ ap numbered same ∙ numbered_is other
