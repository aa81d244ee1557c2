-- What an answer says of a book's file: to looking at it, to reading its beginning, to taking its lock, and to opening
-- the store.
use Rattle.std.specs.Prelude.{◌==◌, ◌++◌, ◌∷◌, [], ℕ, ◌≤◌, ⊤, Bool, true, List, Result, Ok, Err, codes}
use Rattle.std.specs.Prelude.{if◌then◌else◌}
use Rattle.std.specs.Fs.{metadata_len}
use Rattle.std.specs.IoError.{error_kind}
use Rattle.std.specs.Str.{bytes_eq}
use Rattle.std.specs.declared.fs.Metadata.{Metadata}
use Rattle.std.specs.declared.fs.TryLockError.{TryLockError}
use Rattle.std.specs.declared.fs.TryLockError.TheVariants as try
use Rattle.std.specs.declared.io.Error.{Error}
use Rattle.std.specs.declared.io.ErrorKind.{ErrorKind}
use Rattle.std.specs.declared.io.ErrorKind.TheVariants as kind
use Rattle.sqlite.specs.declared.error.Error.{Error as SqlError}
use Rattle.sqlite.specs.declared.error.Error.TheVariants.{SqliteFailure}
use Rattle.sqlite.specs.declared.error.ErrorCode.TheVariants as code
use Rattle.rtgs_book.specs.declared.fault.Fault.{Fault}
use Rattle.rtgs_book.specs.declared.fault.Fault.TheVariants.{OutOfMemory, StoreFault, NotADeskFile}
use Rattle.rtgs_book_file.specs.declared.file_fault.FileFault.{FileFault}
use Rattle.rtgs_book_file.specs.declared.file_fault.FileFault.TheVariants.{InUse, Book}
use Rattle.rtgs_book_file.specs.declared.limits.TheConstants.{MOST_OBJECTS}
use Rattle.rtgs_book_file.specs.declared.object_count.ObjectCount.{ObjectCount}
use Rattle.rtgs_book_file.specs.declared.object_count.ObjectCount.TheVariants.{Objects, WithoutSums, Unknown}

-- no file, or a fault: memory was refused, or the path cannot be looked at
abbrev pub vacancy_without : ErrorKind → Result Bool Fault
vacancy_without kind.NotFound = Ok true
vacancy_without kind.OutOfMemory = Err OutOfMemory
vacancy_without _ = Err StoreFault

-- whether a file at which this look was taken is missing or empty
abbrev pub vacancy_of : Result Metadata Error → Result Bool Fault
vacancy_of (Ok metadata) = Ok (metadata_len metadata == 0)
vacancy_of (Err error) = vacancy_without (error_kind error)

-- how a database begins
abbrev pub magic : List ℕ
magic = codes "SQLite format 3" ++ 0 ∷ []

-- a file that is missing or too short, lack of memory, or a file that cannot be read
abbrev pub fault_of_reading : ErrorKind → Fault
fault_of_reading kind.NotFound = NotADeskFile
fault_of_reading kind.UnexpectedEof = NotADeskFile
fault_of_reading kind.OutOfMemory = OutOfMemory
fault_of_reading _ = StoreFault

-- what it means for a book that its file begins so
abbrev pub opening_of : Result (List ℕ) Error → Result ⊤ Fault
opening_of (Ok bytes) = if bytes_eq bytes magic then Ok tt else Err NotADeskFile
opening_of (Err error) = Err (fault_of_reading (error_kind error))

-- a file of which this was read may be a desk's
abbrev pub MayBeADesks : ObjectCount → Type 0
MayBeADesks (Objects count) = count ≤ MOST_OBJECTS
MayBeADesks WithoutSums = ⊥
MayBeADesks Unknown = Unit {0}

-- why a lock cannot be taken
abbrev pub fault_of_lock : ErrorKind → FileFault
fault_of_lock kind.OutOfMemory = Book OutOfMemory
fault_of_lock _ = InUse

-- why a lock is not taken that is tried: another run holds it, or it cannot be had
abbrev pub fault_of_trying : TryLockError → FileFault
fault_of_trying try.WouldBlock = InUse
fault_of_trying (try.Error error) = fault_of_lock (error_kind error)

-- what an error of the store's opening says of a file
abbrev pub fault_of_store : SqlError → Fault
fault_of_store (SqliteFailure code.OutOfMemory) = OutOfMemory
fault_of_store (SqliteFailure code.NotADatabase) = NotADeskFile
fault_of_store _ = StoreFault
