-- What a run touched of the file of its book, and how it is reported that the file was refused.
use Rattle.std.specs.Prelude.{◌≡◌, ℕ, List}
use Rattle.rtgs_desk.specs.Seen.{Seen}
use Rattle.rtgs_cli_lines.specs.declared.failure.Failure.{Failure}
use Rattle.rtgs_cli_lines.specs.declared.failure.Failure.TheVariants.{Opening, InUse, FileExists}
use Rattle.rtgs_book_file.specs.OverFile.{OverFile}
use Rattle.rtgs_book_file.specs.declared.file_fault.FileFault.{FileFault}
use Rattle.rtgs_book_file.specs.declared.file_fault.FileFault.TheVariants as file
use Rattle.rtgs_cli.specs.declared.files.used.Used.{Used}
use Rattle.rtgs_cli.specs.declared.files.used.Used.TheVariants as used
use Rattle.rtgs_cli.specs.declared.files.touched.Touched.{Touched}
use Rattle.rtgs_cli.specs.declared.files.touched.Touched.TheVariants as traces

-- the failure that a fault of a book's file is reported as
abbrev pub failure_of_file : FileFault → Failure
failure_of_file file.InUse = InUse
failure_of_file file.FileExists = FileExists
failure_of_file (file.Book fault) = Opening fault

-- a file was touched, of which the first is so where it was refused, and the second where it was closed
abbrev pub IsFile : {A U C M : Type 0} → (U → Type 0) → (C → Type 0) → Touched A U C M → Type 0
IsFile WhenRefused WhenClosed (traces.Nothing start) = ⊥
IsFile WhenRefused WhenClosed (traces.Refused unopened) = WhenRefused unopened
IsFile WhenRefused WhenClosed (traces.Book closed beside) = WhenClosed closed

-- what a run used beside the file of its book
abbrev pub used_of : {A U C F P N : Type 0} → Touched A U C (Used F P N) → Used F P N
used_of (traces.Book closed beside) = beside
used_of _ = used.Nothing

module _ {A K U C M : Type 0} (book_file : OverFile K U C) where
  -- the file was refused in such a way, and what is reported is what refused it
  abbrev IsRefusedAs : (U → Type 0) → Touched A U C M → Failure → Type 0
  IsRefusedAs Was touched why = (refused : U) × (touched ≡ traces.Refused refused) × Was refused
      × (why ≡ failure_of_file (book_file.facts.fault_of refused))

  -- no desk was opened over it
  abbrev pub IsNotOpened : Touched A U C M → Failure → Type 0
  IsNotOpened = IsRefusedAs book_file.facts.was_unopened

  -- no book was made in it
  abbrev pub IsNoBookMade : Touched A U C M → Failure → Type 0
  IsNoBookMade = IsRefusedAs book_file.facts.was_unmade

  -- its tables were not brought to the newest version
  abbrev pub IsNotMigrated : Touched A U C M → Failure → Type 0
  IsNotMigrated = IsRefusedAs book_file.facts.was_unmigrated

  -- the desk was left so, and then the file was closed, which is this one; and beside it the run used this
  abbrev pub IsClosed : Seen K → M → Touched A U C M → Type 0
  IsClosed left beside touched = (closed : C) × (touched ≡ traces.Book closed beside)
      × book_file.facts.was_closed left.keeper closed

  -- what was touched is the file at this path
  abbrev pub IsOf : List ℕ → Touched A U C M → Type 0
  IsOf path touched = IsFile (book_file.facts.refused_at path) (book_file.facts.closed_at path) touched

  -- the file was not touched
  abbrev pub IsUntouched : Touched A U C M → Type 0
  IsUntouched touched = (start : A) × (touched ≡ traces.Nothing start)
