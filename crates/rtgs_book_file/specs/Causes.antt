-- What is so of each thing that refuses a book's file. `held` is what the files held, `k` has the members of the
-- keeper's trait, `conn` gives a keeper's connection, and `files_of` the files of a book that was closed.
use Rattle.sqlite_disk.specs.declared.Disk as disk
use Rattle.sqlite_disk.specs.declared.Files.{Files}
use Rattle.sqlite.specs.Held.{Held}
use Rattle.sqlite.specs.Recovery.{Image}
use Rattle.sqlite.specs.declared.FileStore.{FileStore}
use Rattle.rtgs_keeper.specs.declared.keeper.Keeper.{Ghosts}
use Rattle.rtgs_book_file.specs.Refused.{IsNotLocked, IsNotVacant, ShowsFault, IsNoBook, WasRefused, WasUnmade}
use Rattle.rtgs_book_file.specs.Refused.{WasUnmigrated}
use Rattle.rtgs_book_file.specs.Starting.{IsNotStarted}
use Rattle.rtgs_book_file.specs.declared.cause.Cause.{Cause}
use Rattle.rtgs_book_file.specs.declared.cause.Cause.TheVariants.{NotLocked, NotVacant, NotReadable, NotReached}
use Rattle.rtgs_book_file.specs.declared.cause.Cause.TheVariants.{NotStarted, Abandoned}
use Rattle.rtgs_book_file.specs.declared.file_fault.FileFault.{FileFault}
use Rattle.rtgs_book_file.specs.declared.file_fault.FileFault.TheVariants.{Book}

-- the fault that it is reported as
abbrev pub fault_of_cause : {B : Type 0} → Cause B → FileFault
fault_of_cause (NotLocked refused) = refused.fault
fault_of_cause (NotVacant taken) = taken.fault
fault_of_cause (NotReadable unread) = Book unread.fault
fault_of_cause (NotStarted unstarted) = Book unstarted.fault
fault_of_cause (NotReached unreached) = Book unreached.fault
fault_of_cause (Abandoned fault closed) = Book fault

-- the lock was not taken
abbrev pub IsOfItsLock : {B : Type 0} → Cause B → Type 0
IsOfItsLock (NotLocked refused) = IsNotLocked refused.fault
IsOfItsLock _ = ⊥

-- Why the tables of a file whose lock was taken were not brought to the newest version, and in what state the file is
-- left that was opened. `g` has the members of a disk's trait.
abbrev pub BarsMigration : {D B : Type 0} → disk.Ghosts D → Image → (B → Files D) → Cause B → Type 0
BarsMigration g held files_of (NotReadable unread) = ShowsFault unread.fault
BarsMigration g held files_of (NotReached unreached) = IsNoBook g held unreached.fault
BarsMigration g held files_of (Abandoned fault closed) = WasUnmigrated g held fault (files_of closed)
BarsMigration g held files_of _ = ⊥

module _ {K D : Type 0} {g : disk.Ghosts D} (k : Ghosts K) (conn : K → Held (FileStore D g)) (held : Image)
    {B : Type 0} (files_of : B → Files D) where
  -- why a file whose lock was taken is no book's, and in what state the book is left that was opened
  abbrev pub ShowsNoBook : Cause B → Type 0
  ShowsNoBook (NotReadable unread) = ShowsFault unread.fault
  ShowsNoBook (NotReached unreached) = IsNoBook g held unreached.fault
  ShowsNoBook (Abandoned fault closed) = WasRefused k conn held fault (files_of closed)
  ShowsNoBook _ = ⊥

  -- why no book was made in a file whose lock was taken, and in what state the file is left that was opened
  abbrev pub BarsBook : Cause B → Type 0
  BarsBook (NotVacant taken) = IsNotVacant taken.fault
  BarsBook (NotStarted unstarted) = IsNotStarted unstarted.fault
  BarsBook (NotReached unreached) = IsNoBook g held unreached.fault
  BarsBook (Abandoned fault closed) = WasUnmade k conn held fault (files_of closed)
  BarsBook _ = ⊥
