-- A refusal for one of several causes is one for any of them.
use Rattle.std.proofs.Common.{◌≡◌, refl, inl, inr}
use Rattle.sqlite_disk.specs.declared.Disk as disk
use Rattle.sqlite_disk.specs.declared.Files.{Files}
use Rattle.sqlite.specs.Held.{Held}
use Rattle.sqlite.specs.Recovery.{Image}
use Rattle.sqlite.specs.declared.FileStore.{FileStore}
use Rattle.rtgs_book.specs.declared.fault.Fault.{Fault}
use Rattle.rtgs_keeper.specs.declared.keeper.Keeper.{Ghosts}
use Rattle.rtgs_book_file.specs.Causes.{fault_of_cause, ShowsNoBook, BarsBook}
use Rattle.rtgs_book_file.specs.Refused.{IsNotLocked, IsNotVacant, HasNoBook, IsNotMade, IsUnopened, IsUnmadeIn}
use Rattle.rtgs_book_file.specs.declared.cause.Cause.{Cause}
use Rattle.rtgs_book_file.specs.declared.cause.Cause.TheVariants.{NotLocked, NotVacant, NotReadable, NotReached}
use Rattle.rtgs_book_file.specs.declared.cause.Cause.TheVariants.{NotStarted, Abandoned}
use Rattle.rtgs_book_file.specs.declared.file_fault.FileFault.{FileFault}
use Rattle.rtgs_book_file.specs.declared.file_fault.FileFault.TheVariants.{InUse, FileExists, Book}

module _ {K D : Type 0} {g : disk.Ghosts D} (k : Ghosts K) (conn : K → Held (FileStore D g)) (held : Image) where
  pub not_locked_opens_none : (fault : FileFault) → IsNotLocked fault → IsUnopened k conn held fault
  not_locked_opens_none InUse cause = tt
  not_locked_opens_none FileExists cause = cause
  not_locked_opens_none (Book fault) cause = inl cause

  pub not_locked_makes_none : (fault : FileFault) → IsNotLocked fault → IsUnmadeIn k conn held fault
  not_locked_makes_none InUse cause = tt
  not_locked_makes_none FileExists cause = absurd cause
  not_locked_makes_none (Book fault) cause = inl cause

  not_vacant : (fault : FileFault) → IsNotVacant fault → IsNotMade k conn held fault
  not_vacant InUse cause = absurd cause.1
  not_vacant FileExists cause = cause
  not_vacant (Book fault) cause = inl cause

  pub not_made : (fault : FileFault) → IsNotMade k conn held fault → IsUnmadeIn k conn held fault
  not_made InUse cause = absurd cause
  not_made FileExists cause = cause
  not_made (Book fault) cause = inr cause

  module _ {B : Type 0} (files_of : B → Files D) where
    pub shows_none : (cause : Cause B) → ShowsNoBook k conn held files_of cause
        → (fault : Fault) × (fault_of_cause cause ≡ Book fault) × HasNoBook k conn held fault
    shows_none (NotLocked refused) why = absurd why
    shows_none (NotVacant taken) why = absurd why
    shows_none (NotReadable unread) why = (unread.fault, refl, inl why)
    shows_none (NotStarted unstarted) why = absurd why
    shows_none (NotReached unreached) why = (unreached.fault, refl, inr (inl why))
    shows_none (Abandoned fault closed) why = (fault, refl, inr (inr (files_of closed, why)))

    pub opens_none : (cause : Cause B) → ShowsNoBook k conn held files_of cause
        → IsUnopened k conn held (fault_of_cause cause)
    opens_none (NotLocked refused) why = absurd why
    opens_none (NotVacant taken) why = absurd why
    opens_none (NotReadable unread) why = inr (inl why)
    opens_none (NotStarted unstarted) why = absurd why
    opens_none (NotReached unreached) why = inr (inr (inl why))
    opens_none (Abandoned fault closed) why = inr (inr (inr (files_of closed, why)))

    pub bars : (cause : Cause B) → BarsBook k conn held files_of cause → IsNotMade k conn held (fault_of_cause cause)
    bars (NotLocked refused) why = absurd why
    bars (NotVacant taken) why = not_vacant taken.fault why
    bars (NotReadable unread) why = absurd why
    bars (NotStarted unstarted) why = inr (inl why)
    bars (NotReached unreached) why = inr (inr (inl why))
    bars (Abandoned fault closed) why = inr (inr (inr (files_of closed, why)))
