-- What closing a connection leaves of its files.
use Rattle.std.specs.Prelude.{◌≡◌, None, IfSome}
use Rattle.sqlite_disk.specs.declared.Disk as disk
use Rattle.sqlite_disk.specs.declared.Files.{Files}
use Rattle.sqlite.specs.Closing.{IsCopied}
use Rattle.sqlite.specs.Files.{IsClosed, FailsToClose}
use Rattle.sqlite.specs.FileStore as store
use Rattle.sqlite.specs.Held.{Held}
use Rattle.sqlite.specs.View.{IsClean}
use Rattle.sqlite.specs.WalReads.{AreClean}
use Rattle.sqlite.specs.declared.Error.{Error}
use Rattle.sqlite.specs.declared.FileStore.{FileStore}
use Rattle.rtgs_book_file.specs.declared.closed_files.ClosedFiles.{ClosedFiles}

module _ {D : Type 0} {g : disk.Ghosts D} where
  -- a crash leaves no more of the files than it could before
  abbrev pub LeavesNoMore : Held (FileStore D g) → Files D → Type 0
  LeavesNoMore c files =
      (last : FileStore D g) × IsClosed c last × (store.files last ≡ (files.log, files.db))

  -- why a log was not copied: memory ran out, or the store failed
  abbrev pub ExcusesLog : Held (FileStore D g) → Files D → Error → Type 0
  ExcusesLog c files error = (last : FileStore D g) × (store.files last ≡ (files.log, files.db))
      × (IsClean (store.view last) → FailsToClose c last error)

  -- And the log was copied. Where the disk gave back what was written to it, the last commit is in the database file
  -- then, as it reads now and after a crash. Or there is an error, which says why it was not.
  pub record LeavesClosed (c : Held (FileStore D g)) (closed : ClosedFiles D) : Type 0 where
    pub no_more : LeavesNoMore c closed.files
    pub copied : closed.uncopied ≡ None → AreClean g closed.files.log closed.files.db → IsCopied c closed.files
    pub excused : IfSome closed.uncopied (ExcusesLog c closed.files)
