-- What is printed of refusals.
use Rattle.std.specs.Prelude.{◌+◌, ◌/◌, ◌%◌, ◌&&◌, ◌++◌, ◌∷◌, [], ℕ, Bool, true, List, Option, None, Some, codes}
use Rattle.std.specs.Prelude.{nat_lt}
use Rattle.std.specs.List.{flat_map}
use Rattle.rtgs_refusals.specs.Table.{entry_of}
use Rattle.rtgs_refusals.specs.declared.refusal_kind.RefusalKind.{RefusalKind}
use Rattle.rtgs_refusals.specs.declared.refusal_kind.RefusalKind.TheVariants as kind
use Rattle.rtgs_refusal_texts.specs.declared.kinds.TheConstants.{KINDS}
use Rattle.rtgs_refusal_texts.specs.declared.texts.TheConstants.{UNKNOWN_PARTICIPANT, UNKNOWN_RECEIVER, SAME_PARTY}
use Rattle.rtgs_refusal_texts.specs.declared.texts.TheConstants.{REFERENCE_USED, NOT_OPEN, NO_COVER, QUEUE_FULL}
use Rattle.rtgs_refusal_texts.specs.declared.texts.TheConstants.{NUMBERS_USED_UP, UNKNOWN_ORDER, CODE_TAKEN, KEY_TAKEN}
use Rattle.rtgs_refusal_texts.specs.declared.texts.TheConstants.{TOO_MANY_PARTICIPANTS, TOTAL_TOO_LARGE, WRONG_PHASE}
use Rattle.rtgs_refusal_texts.specs.declared.texts.TheConstants.{WRONG_DATE, WEEKEND, NOT_QUEUED, RESOLVABLE, OVERDRAWN}
use Rattle.rtgs_refusal_texts.specs.declared.texts.TheConstants.{DUE_NOT_LATER, BAD_CODE, BAD_REFERENCE, BAD_AMOUNT}
use Rattle.rtgs_refusal_texts.specs.declared.texts.TheConstants.{BAD_NAME, BAD_KEY, BAD_DATE, BAD_HEADER, BAD_ROW}
use Rattle.rtgs_refusal_texts.specs.declared.texts.TheConstants.{BAD_COUNT, BAD_HEAD, HEAD_TOO_LONG, NO_LENGTH}
use Rattle.rtgs_refusal_texts.specs.declared.texts.TheConstants.{BODY_TOO_LONG, TRUNCATED, BAD_JSON, WRONG_FIELDS}
use Rattle.rtgs_refusal_texts.specs.declared.texts.TheConstants.{NO_SUCH_ROUTE, NO_KEY, ANSWER_LOST, OUT_OF_MEMORY}
use Rattle.rtgs_refusal_texts.specs.declared.texts.TheConstants.{STORE_FAULT, FAILED, NOT_A_DESK_FILE, INCONSISTENT}
use Rattle.rtgs_refusal_texts.specs.declared.texts.TheConstants.{IN_USE, FILE_EXISTS, NO_LISTEN, NO_ORDER_FILE}

-- what is said of a refusal
abbrev pub text_of : RefusalKind → List ℕ
text_of kind.UnknownParticipant = UNKNOWN_PARTICIPANT.now
text_of kind.UnknownReceiver = UNKNOWN_RECEIVER.now
text_of kind.SameParty = SAME_PARTY.now
text_of kind.ReferenceUsed = REFERENCE_USED.now
text_of kind.NotOpen = NOT_OPEN.now
text_of kind.NoCover = NO_COVER.now
text_of kind.QueueFull = QUEUE_FULL.now
text_of kind.NumbersUsedUp = NUMBERS_USED_UP.now
text_of kind.UnknownOrder = UNKNOWN_ORDER.now
text_of kind.CodeTaken = CODE_TAKEN.now
text_of kind.KeyTaken = KEY_TAKEN.now
text_of kind.TooManyParticipants = TOO_MANY_PARTICIPANTS.now
text_of kind.TotalTooLarge = TOTAL_TOO_LARGE.now
text_of kind.WrongPhase = WRONG_PHASE.now
text_of kind.WrongDate = WRONG_DATE.now
text_of kind.Weekend = WEEKEND.now
text_of kind.NotQueued = NOT_QUEUED.now
text_of kind.Resolvable = RESOLVABLE.now
text_of kind.Overdrawn = OVERDRAWN.now
text_of kind.DueNotLater = DUE_NOT_LATER.now
text_of kind.BadCode = BAD_CODE.now
text_of kind.BadReference = BAD_REFERENCE.now
text_of kind.BadAmount = BAD_AMOUNT.now
text_of kind.BadName = BAD_NAME.now
text_of kind.BadKey = BAD_KEY.now
text_of kind.BadDate = BAD_DATE.now
text_of kind.BadHeader = BAD_HEADER.now
text_of kind.BadRow = BAD_ROW.now
text_of kind.BadCount = BAD_COUNT.now
text_of kind.BadHead = BAD_HEAD.now
text_of kind.HeadTooLong = HEAD_TOO_LONG.now
text_of kind.NoLength = NO_LENGTH.now
text_of kind.BodyTooLong = BODY_TOO_LONG.now
text_of kind.Truncated = TRUNCATED.now
text_of kind.BadJson = BAD_JSON.now
text_of kind.WrongFields = WRONG_FIELDS.now
text_of kind.NoSuchRoute = NO_SUCH_ROUTE.now
text_of kind.NoKey = NO_KEY.now
text_of kind.AnswerLost = ANSWER_LOST.now
text_of kind.OutOfMemory = OUT_OF_MEMORY.now
text_of kind.StoreFault = STORE_FAULT.now
text_of kind.Failed = FAILED.now
text_of kind.NotADeskFile = NOT_A_DESK_FILE.now
text_of kind.Inconsistent = INCONSISTENT.now
text_of kind.InUse = IN_USE.now
text_of kind.FileExists = FILE_EXISTS.now
text_of kind.NoListen = NO_LISTEN.now
text_of kind.NoOrderFile = NO_ORDER_FILE.now

-- the line with which that begins: the number in two decimal digits, which begin with the character 48, and the name
abbrev pub head_of : RefusalKind → List ℕ
head_of kind = (48 + (entry_of kind).number / 10) ∷ (48 + (entry_of kind).number % 10) ∷ codes " "
    ++ (entry_of kind).name ++ 10 ∷ []

-- of one refusal what is said of it, and else of each, one after another in the order of their numbers
abbrev pub explanation : Option RefusalKind → List ℕ
explanation (Some kind) = text_of kind
explanation None = flat_map text_of KINDS

-- each number is larger than the one before it
abbrev pub rise : List ℕ → Bool
rise (one ∷ next ∷ more) = nat_lt one next && rise (next ∷ more)
rise numbers = true
