-- Each kind of refusal stands in the list, and begins its text.
use Rattle.std.proofs.Common.{◌≡◌, length, take, refl, arith}
use Rattle.std.specs.List.{Any}
use Rattle.rtgs_refusals.specs.declared.refusal_kind.RefusalKind.{RefusalKind}
use Rattle.rtgs_refusals.specs.declared.refusal_kind.RefusalKind.TheVariants as kind
use Rattle.rtgs_refusal_texts.specs.Texts.{head_of, text_of}
use Rattle.rtgs_refusal_texts.specs.declared.kinds.TheConstants.{KINDS}

-- where each stands
pub each_listed : (kind : RefusalKind) → Any (λ listed. listed ≡ kind) KINDS
each_listed kind.UnknownParticipant = (0, kind.UnknownParticipant, omega arith, refl, refl)
each_listed kind.UnknownReceiver = (1, kind.UnknownReceiver, omega arith, refl, refl)
each_listed kind.SameParty = (2, kind.SameParty, omega arith, refl, refl)
each_listed kind.ReferenceUsed = (3, kind.ReferenceUsed, omega arith, refl, refl)
each_listed kind.NotOpen = (4, kind.NotOpen, omega arith, refl, refl)
each_listed kind.NoCover = (5, kind.NoCover, omega arith, refl, refl)
each_listed kind.QueueFull = (6, kind.QueueFull, omega arith, refl, refl)
each_listed kind.NumbersUsedUp = (7, kind.NumbersUsedUp, omega arith, refl, refl)
each_listed kind.UnknownOrder = (8, kind.UnknownOrder, omega arith, refl, refl)
each_listed kind.CodeTaken = (9, kind.CodeTaken, omega arith, refl, refl)
each_listed kind.KeyTaken = (10, kind.KeyTaken, omega arith, refl, refl)
each_listed kind.TooManyParticipants = (11, kind.TooManyParticipants, omega arith, refl, refl)
each_listed kind.TotalTooLarge = (12, kind.TotalTooLarge, omega arith, refl, refl)
each_listed kind.WrongPhase = (13, kind.WrongPhase, omega arith, refl, refl)
each_listed kind.WrongDate = (14, kind.WrongDate, omega arith, refl, refl)
each_listed kind.Weekend = (15, kind.Weekend, omega arith, refl, refl)
each_listed kind.NotQueued = (16, kind.NotQueued, omega arith, refl, refl)
each_listed kind.Resolvable = (17, kind.Resolvable, omega arith, refl, refl)
each_listed kind.Overdrawn = (18, kind.Overdrawn, omega arith, refl, refl)
each_listed kind.DueNotLater = (19, kind.DueNotLater, omega arith, refl, refl)
each_listed kind.BadCode = (20, kind.BadCode, omega arith, refl, refl)
each_listed kind.BadReference = (21, kind.BadReference, omega arith, refl, refl)
each_listed kind.BadAmount = (22, kind.BadAmount, omega arith, refl, refl)
each_listed kind.BadName = (23, kind.BadName, omega arith, refl, refl)
each_listed kind.BadKey = (24, kind.BadKey, omega arith, refl, refl)
each_listed kind.BadDate = (25, kind.BadDate, omega arith, refl, refl)
each_listed kind.BadHeader = (26, kind.BadHeader, omega arith, refl, refl)
each_listed kind.BadRow = (27, kind.BadRow, omega arith, refl, refl)
each_listed kind.BadCount = (28, kind.BadCount, omega arith, refl, refl)
each_listed kind.BadHead = (29, kind.BadHead, omega arith, refl, refl)
each_listed kind.HeadTooLong = (30, kind.HeadTooLong, omega arith, refl, refl)
each_listed kind.NoLength = (31, kind.NoLength, omega arith, refl, refl)
each_listed kind.BodyTooLong = (32, kind.BodyTooLong, omega arith, refl, refl)
each_listed kind.Truncated = (33, kind.Truncated, omega arith, refl, refl)
each_listed kind.BadJson = (34, kind.BadJson, omega arith, refl, refl)
each_listed kind.WrongFields = (35, kind.WrongFields, omega arith, refl, refl)
each_listed kind.NoSuchRoute = (36, kind.NoSuchRoute, omega arith, refl, refl)
each_listed kind.NoKey = (37, kind.NoKey, omega arith, refl, refl)
each_listed kind.AnswerLost = (38, kind.AnswerLost, omega arith, refl, refl)
each_listed kind.OutOfMemory = (39, kind.OutOfMemory, omega arith, refl, refl)
each_listed kind.StoreFault = (40, kind.StoreFault, omega arith, refl, refl)
each_listed kind.Failed = (41, kind.Failed, omega arith, refl, refl)
each_listed kind.NotADeskFile = (42, kind.NotADeskFile, omega arith, refl, refl)
each_listed kind.Inconsistent = (43, kind.Inconsistent, omega arith, refl, refl)
each_listed kind.InUse = (44, kind.InUse, omega arith, refl, refl)
each_listed kind.FileExists = (45, kind.FileExists, omega arith, refl, refl)
each_listed kind.NoListen = (46, kind.NoListen, omega arith, refl, refl)
each_listed kind.NoOrderFile = (47, kind.NoOrderFile, omega arith, refl, refl)

pub each_begun : (kind : RefusalKind) → take (length (head_of kind)) (text_of kind) ≡ head_of kind
each_begun kind.UnknownParticipant = refl
each_begun kind.UnknownReceiver = refl
each_begun kind.SameParty = refl
each_begun kind.ReferenceUsed = refl
each_begun kind.NotOpen = refl
each_begun kind.NoCover = refl
each_begun kind.QueueFull = refl
each_begun kind.NumbersUsedUp = refl
each_begun kind.UnknownOrder = refl
each_begun kind.CodeTaken = refl
each_begun kind.KeyTaken = refl
each_begun kind.TooManyParticipants = refl
each_begun kind.TotalTooLarge = refl
each_begun kind.WrongPhase = refl
each_begun kind.WrongDate = refl
each_begun kind.Weekend = refl
each_begun kind.NotQueued = refl
each_begun kind.Resolvable = refl
each_begun kind.Overdrawn = refl
each_begun kind.DueNotLater = refl
each_begun kind.BadCode = refl
each_begun kind.BadReference = refl
each_begun kind.BadAmount = refl
each_begun kind.BadName = refl
each_begun kind.BadKey = refl
each_begun kind.BadDate = refl
each_begun kind.BadHeader = refl
each_begun kind.BadRow = refl
each_begun kind.BadCount = refl
each_begun kind.BadHead = refl
each_begun kind.HeadTooLong = refl
each_begun kind.NoLength = refl
each_begun kind.BodyTooLong = refl
each_begun kind.Truncated = refl
each_begun kind.BadJson = refl
each_begun kind.WrongFields = refl
each_begun kind.NoSuchRoute = refl
each_begun kind.NoKey = refl
each_begun kind.AnswerLost = refl
each_begun kind.OutOfMemory = refl
each_begun kind.StoreFault = refl
each_begun kind.Failed = refl
each_begun kind.NotADeskFile = refl
each_begun kind.Inconsistent = refl
each_begun kind.InUse = refl
each_begun kind.FileExists = refl
each_begun kind.NoListen = refl
each_begun kind.NoOrderFile = refl
