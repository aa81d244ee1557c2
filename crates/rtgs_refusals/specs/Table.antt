-- What each kind of refusal is known by: its number, its name, the status of the HTTP reply and the exit status of the
-- program.
use Rattle.std.specs.Prelude.{ℕ, List, codes, Option, None, Some}
use Rattle.rtgs_refusals.specs.declared.exit_status.TheConstants.{REFUSED, FAILED}
use Rattle.rtgs_refusals.specs.declared.refusal_kind.RefusalKind.{RefusalKind}
use Rattle.rtgs_refusals.specs.declared.refusal_kind.RefusalKind.TheVariants as kind

pub record Entry : Type 0 where
  pub number : ℕ
  pub name : List ℕ
  -- none where no HTTP request meets the refusal
  pub http_status : Option ℕ
  -- none where no run of the program meets it
  pub exit_status : Option ℕ

abbrev pub entry : ℕ → List ℕ → Option ℕ → Option ℕ → Entry
entry number name http_status exit_status = record {
  number = number;
  name = name;
  http_status = http_status;
  exit_status = exit_status;
}

abbrev pub entry_of : RefusalKind → Entry
entry_of kind.UnknownParticipant = entry 1 (codes "UnknownParticipant") (Some 404) (Some REFUSED)
entry_of kind.UnknownReceiver = entry 2 (codes "UnknownReceiver") (Some 409) (Some REFUSED)
entry_of kind.SameParty = entry 3 (codes "SameParty") (Some 409) (Some REFUSED)
entry_of kind.ReferenceUsed = entry 4 (codes "ReferenceUsed") (Some 409) (Some REFUSED)
entry_of kind.NotOpen = entry 5 (codes "NotOpen") (Some 409) (Some REFUSED)
entry_of kind.NoCover = entry 6 (codes "NoCover") (Some 409) (Some REFUSED)
entry_of kind.QueueFull = entry 7 (codes "QueueFull") (Some 409) (Some REFUSED)
entry_of kind.NumbersUsedUp = entry 8 (codes "NumbersUsedUp") (Some 409) (Some REFUSED)
entry_of kind.UnknownOrder = entry 9 (codes "UnknownOrder") (Some 404) (Some REFUSED)
entry_of kind.CodeTaken = entry 10 (codes "CodeTaken") (Some 409) (Some REFUSED)
entry_of kind.KeyTaken = entry 11 (codes "KeyTaken") (Some 409) (Some REFUSED)
entry_of kind.TooManyParticipants = entry 12 (codes "TooManyParticipants") (Some 409) (Some REFUSED)
entry_of kind.TotalTooLarge = entry 13 (codes "TotalTooLarge") (Some 409) (Some REFUSED)
entry_of kind.WrongPhase = entry 14 (codes "WrongPhase") (Some 409) (Some REFUSED)
entry_of kind.WrongDate = entry 15 (codes "WrongDate") (Some 409) (Some REFUSED)
entry_of kind.Weekend = entry 16 (codes "Weekend") (Some 409) (Some REFUSED)
entry_of kind.NotQueued = entry 17 (codes "NotQueued") (Some 409) (Some REFUSED)
entry_of kind.Resolvable = entry 18 (codes "Resolvable") (Some 409) (Some REFUSED)
entry_of kind.Overdrawn = entry 19 (codes "Overdrawn") (Some 409) (Some REFUSED)
entry_of kind.DueNotLater = entry 20 (codes "DueNotLater") (Some 409) (Some REFUSED)
entry_of kind.BadCode = entry 30 (codes "BadCode") (Some 400) (Some REFUSED)
entry_of kind.BadReference = entry 31 (codes "BadReference") (Some 400) (Some REFUSED)
entry_of kind.BadAmount = entry 32 (codes "BadAmount") (Some 400) (Some REFUSED)
entry_of kind.BadName = entry 33 (codes "BadName") (Some 400) (Some REFUSED)
entry_of kind.BadKey = entry 34 (codes "BadKey") (Some 400) (Some REFUSED)
entry_of kind.BadDate = entry 35 (codes "BadDate") (Some 400) (Some REFUSED)
entry_of kind.BadHeader = entry 40 (codes "BadHeader") (Some 400) (Some REFUSED)
entry_of kind.BadRow = entry 41 (codes "BadRow") (Some 400) (Some REFUSED)
entry_of kind.BadCount = entry 42 (codes "BadCount") (Some 400) (Some REFUSED)
entry_of kind.BadHead = entry 60 (codes "BadHead") (Some 400) None
entry_of kind.HeadTooLong = entry 61 (codes "HeadTooLong") (Some 413) None
entry_of kind.NoLength = entry 62 (codes "NoLength") (Some 411) None
entry_of kind.BodyTooLong = entry 63 (codes "BodyTooLong") (Some 413) (Some REFUSED)
entry_of kind.Truncated = entry 64 (codes "Truncated") (Some 400) None
entry_of kind.BadJson = entry 65 (codes "BadJson") (Some 400) None
entry_of kind.WrongFields = entry 66 (codes "WrongFields") (Some 400) None
entry_of kind.NoSuchRoute = entry 67 (codes "NoSuchRoute") (Some 404) None
entry_of kind.NoKey = entry 68 (codes "NoKey") (Some 403) None
entry_of kind.AnswerLost = entry 69 (codes "AnswerLost") (Some 503) None
entry_of kind.OutOfMemory = entry 90 (codes "OutOfMemory") (Some 503) (Some FAILED)
entry_of kind.StoreFault = entry 91 (codes "StoreFault") (Some 503) (Some FAILED)
entry_of kind.Failed = entry 92 (codes "Failed") (Some 503) (Some FAILED)
entry_of kind.NotADeskFile = entry 93 (codes "NotADeskFile") None (Some FAILED)
entry_of kind.Inconsistent = entry 94 (codes "Inconsistent") None (Some FAILED)
entry_of kind.InUse = entry 95 (codes "InUse") None (Some FAILED)
entry_of kind.FileExists = entry 96 (codes "FileExists") None (Some FAILED)
entry_of kind.NoListen = entry 97 (codes "NoListen") None (Some FAILED)
entry_of kind.NoOrderFile = entry 98 (codes "NoOrderFile") None (Some FAILED)
