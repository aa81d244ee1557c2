-- Why no desk was opened over the file of a book, why no book was made in one, and why its tables were not brought to
-- the newest version. `held` is what the files held, `k` has the members of the keeper's trait, and `conn` gives a
-- keeper's connection.
use Rattle.std.specs.Prelude.{◌≡◌, ◌≢◌, ◌⊎◌, ◌<◌, ℕ, true, false, List, Result, Ok, Err, IsTrue}
use Rattle.std.specs.declared.fs.Metadata.{Metadata}
use Rattle.std.specs.declared.io.Error.{Error}
use Rattle.sqlite_disk.specs.declared.Disk as disk
use Rattle.sqlite_disk.specs.declared.Files.{Files}
use Rattle.sqlite.specs.Files.{file_state, image_of, IsOpened, IsCleanLeft, FailsToOpenFiles, LeavesFiles}
use Rattle.sqlite.specs.Held.{Held}
use Rattle.sqlite.specs.Opening.{is_open_error}
use Rattle.sqlite.specs.Recovery.{Image}
use Rattle.sqlite.specs.Start.{FindsIn}
use Rattle.sqlite.specs.State.{HasCleanDisk}
use Rattle.sqlite.specs.declared.FileStore.{FileStore}
use Rattle.sqlite.specs.declared.Leftover.{Leftover}
use Rattle.sqlite.specs.declared.error.Error.{Error as SqlError}
use Rattle.sqlite.specs.declared.error.Error.TheVariants.{SqliteFailure}
use Rattle.sqlite.specs.declared.error.ErrorCode.TheVariants as code
use Rattle.rtgs_book.specs.declared.fault.Fault.{Fault}
use Rattle.rtgs_book.specs.declared.fault.Fault.TheVariants.{OutOfMemory, StoreFault, NotADeskFile}
use Rattle.rtgs_keeper.specs.declared.keeper.Keeper.{Ghosts}
use Rattle.rtgs_book_file.specs.stored_desk.Migrated.{IsUnmigrated}
use Rattle.rtgs_book_file.specs.stored_desk.Stored.{HasNoSchema, IsRefused, IsUnmade}
use Rattle.rtgs_book_file.specs.Closed.{LeavesNoMore}
use Rattle.rtgs_book_file.specs.Files.{vacancy_of, opening_of, fault_of_store}
use Rattle.rtgs_book_file.specs.Starting.{IsNotStarted}
use Rattle.rtgs_book_file.specs.declared.file_fault.FileFault.{FileFault}
use Rattle.rtgs_book_file.specs.declared.file_fault.FileFault.TheVariants.{InUse, FileExists, Book}
use Rattle.rtgs_book_file.specs.declared.limits.TheConstants.{MOST_OBJECTS}
use Rattle.rtgs_book_file.specs.declared.object_count.ObjectCount.{ObjectCount}
use Rattle.rtgs_book_file.specs.declared.object_count.ObjectCount.TheVariants.{Objects, WithoutSums, Unknown}

-- another run holds the lock, or it cannot be made; or memory ran out for it
abbrev pub IsNotLocked : FileFault → Type 0
IsNotLocked InUse = Unit {0}
IsNotLocked FileExists = ⊥
IsNotLocked (Book fault) = fault ≡ OutOfMemory

-- this look at the file showed that it holds something, or could not be taken
abbrev pub IsBarredBy : Result Metadata Error → FileFault → Type 0
IsBarredBy looked InUse = ⊥
IsBarredBy looked FileExists = vacancy_of looked ≡ Ok false
IsBarredBy looked (Book fault) = vacancy_of looked ≡ Err fault

-- a look at the file did
abbrev pub IsNotVacant : FileFault → Type 0
IsNotVacant fault = (looked : Result Metadata Error) × IsBarredBy looked fault

-- the file's beginning is none of a database, or could not be read
abbrev pub IsOfItsBeginning : Fault → Type 0
IsOfItsBeginning fault = (beginning : Result (List ℕ) Error) × (opening_of beginning ≡ Err fault)

-- the file lists more objects than a desk's file does, or its pages are to end in sums and do not
abbrev pub IsCrowded : ObjectCount → Fault → Type 0
IsCrowded (Objects count) fault = (MOST_OBJECTS < count) × (fault ≡ NotADeskFile)
IsCrowded WithoutSums fault = fault ≡ NotADeskFile
IsCrowded Unknown fault = ⊥

-- a look at the file showed the one or the other
abbrev pub ShowsFault : Fault → Type 0
ShowsFault fault = IsOfItsBeginning fault ⊎ ((listed : ObjectCount) × IsCrowded listed fault)

-- no file was opened: it cannot be, memory ran out, or another program has it open
abbrev pub IsOutOfReach : SqlError → Type 0
IsOutOfReach error = (error ≡ SqliteFailure code.CannotOpen)
    ⊎ ((error ≡ SqliteFailure code.OutOfMemory) ⊎ (error ≡ SqliteFailure code.DatabaseBusy))

-- The files were opened, and this was left of them. Where the disk gave back what was written to it, the error has its
-- cause in what they held, in memory or in a fault; and they are left as the store says.
pub record FailsOver {D : Type 0} (g : disk.Ghosts D) (held : Image) (error : SqlError) : Type 0 where
  pub files : Files D
  pub left : Leftover D g
  pub held_it : image_of g files ≡ held
  pub cause : IsCleanLeft left → FailsToOpenFiles files left error
  pub leaves : IsCleanLeft left → LeavesFiles files left

-- the store did not open
pub record IsNoBook {D : Type 0} (g : disk.Ghosts D) (held : Image) (fault : Fault) : Type 0 where
  pub error : SqlError
  pub reported : fault ≡ fault_of_store error
  pub named : IsTrue (is_open_error error)
  pub why : IsOutOfReach error ⊎ FailsOver g held error

-- the store opened, its tables were not brought to the newest version, and these files are left
pub record WasUnmigrated {D : Type 0} (g : disk.Ghosts D) (held : Image) (fault : Fault) (files : Files D) : Type 0
  where
    -- the connection, when it had been opened, and when it was abandoned
    pub was : Held (FileStore D g)
    pub left : Held (FileStore D g)
    pub opened : HasCleanDisk (file_state left) → IsOpened was
    pub found : HasCleanDisk (file_state left) → FindsIn held (file_state was)
    -- so what the files held explains the fault, and a stop leaves it, or what a migration makes of it
    pub refused : HasCleanDisk (file_state left) → IsUnmigrated (file_state was) fault (file_state left)
    -- and a crash leaves no more of the files than the connection could
    pub abandoned : LeavesNoMore left files

module _ {K D : Type 0} {g : disk.Ghosts D} (k : Ghosts K) (conn : K → Held (FileStore D g)) (held : Image) where
  -- the store opened, the desk did not, and these files are left
  pub record WasRefused (fault : Fault) (files : Files D) : Type 0 where
    -- the connection, when it had been opened, and the keeper, when it was abandoned
    pub was : Held (FileStore D g)
    pub left : K
    pub opened : HasCleanDisk (file_state (conn left)) → IsOpened was
    pub found : HasCleanDisk (file_state (conn left)) → FindsIn held (file_state was)
    -- so what the files held explains the fault, and a stop leaves it
    pub refused : HasCleanDisk (file_state (conn left)) → IsRefused (file_state was) fault (file_state (conn left))
    -- a fault of the store is reported where the keeper has failed, and not else
    pub failed : fault ≡ StoreFault → k.has_failed left ≡ true
    pub works : fault ≢ StoreFault → k.has_failed left ≡ false
    -- and a crash leaves no more of the files than the keeper could
    pub abandoned : LeavesNoMore (conn left) files

  -- the store opened, no tables were made, and these files are left
  pub record WasUnmade (fault : Fault) (files : Files D) : Type 0 where
    -- the connection, when it had been opened, and when it was abandoned
    pub was : Held (FileStore D g)
    pub left : Held (FileStore D g)
    pub opened : HasCleanDisk (file_state was) → IsOpened was
    pub found : HasCleanDisk (file_state was) → FindsIn held (file_state was)
    pub honest : HasCleanDisk (file_state left) → HasCleanDisk (file_state was)
    -- a database that has tables is no desk's, and the connection is as it was
    pub taken : ¬ HasNoSchema (file_state was) → (fault ≡ NotADeskFile) × (left ≡ was)
    -- over one that has none, a stop leaves none, or those of the new book
    pub refused : HasCleanDisk (file_state left) → HasNoSchema (file_state was) → IsUnmade fault (file_state left)
    -- and a crash leaves no more of the files than the connection could
    pub abandoned : LeavesNoMore left files

  -- why a file whose lock was taken is no book's
  abbrev pub HasNoBook : Fault → Type 0
  HasNoBook fault = ShowsFault fault ⊎ (IsNoBook g held fault ⊎ ((files : Files D) × WasRefused fault files))

  -- why no desk was opened over a file
  abbrev pub IsUnopened : FileFault → Type 0
  IsUnopened InUse = Unit {0}
  IsUnopened FileExists = ⊥
  IsUnopened (Book fault) = (fault ≡ OutOfMemory) ⊎ HasNoBook fault

  -- why no book was made in a file whose lock was taken
  abbrev pub IsNotMade : FileFault → Type 0
  IsNotMade InUse = ⊥
  IsNotMade FileExists = IsNotVacant FileExists
  IsNotMade (Book fault) = IsNotVacant (Book fault)
      ⊎ (IsNotStarted fault ⊎ (IsNoBook g held fault ⊎ ((files : Files D) × WasUnmade fault files)))

  -- why no book was made in a file
  abbrev pub IsUnmadeIn : FileFault → Type 0
  IsUnmadeIn InUse = Unit {0}
  IsUnmadeIn FileExists = IsNotVacant FileExists
  IsUnmadeIn (Book fault) = (fault ≡ OutOfMemory) ⊎ IsNotMade (Book fault)
