-- What crates that know no store say of the file of a book.
use Rattle.std.specs.Prelude.{ℕ, Bool, List}
use Rattle.rtgs_book.specs.declared.book.Book.{Book}
use Rattle.rtgs_book.specs.declared.command.Command.{Command}
use Rattle.rtgs_book.specs.Outcome.{Reply}
use Rattle.rtgs_keeper.specs.declared.keeper.Keeper.{Ghosts}
use Rattle.rtgs_desk.specs.Seen.{Seen}
use Rattle.rtgs_book_file.specs.declared.file_fault.FileFault.{FileFault}

-- what is so of the file of a book, whose keeper is a K; a U is the file that was refused, and a C the one that was
-- closed
pub record FileFacts (K U C : Type 0) : Type 1 where
  -- the desk was opened over what the files held
  pub was_opened : Seen K → Type 0
  -- the keeper was left so, and then the file was closed
  pub was_closed : K → C → Type 0
  -- no desk was opened over it, and what refused it
  pub was_unopened : U → Type 0
  -- the tables of a new book were made over what the files held, and then the file was closed; what they held is meant
  -- from when an empty database stands in a file that was missing or empty
  pub was_made : C → Type 0
  -- no book was made in what they held then, and what refused it
  pub was_unmade : U → Type 0
  -- its tables were brought to the newest version, or were of it already, and then the file was closed
  pub was_migrated : Bool → C → Type 0
  -- its tables were not brought to the newest version, and what refused it
  pub was_unmigrated : U → Type 0
  -- the fault that is reported where no desk was opened over it, no book made in it, or its tables not brought on
  pub fault_of : U → FileFault
  -- it is the file at this path, as its lock is named
  pub refused_at : List ℕ → U → Type 0
  pub closed_at : List ℕ → C → Type 0
  -- Whatever a stop leaves of the desk's file is a book that a session of these commands may find, in its tables,
  -- whole, and calm.
  pub stop_leaves : Seen K → Book → List Command → List Reply → Type 0

-- the file of a book, with the members of its keeper's trait
pub record OverFile (K U C : Type 0) : Type 1 where
  pub keeper : Ghosts K
  pub facts : FileFacts K U C

-- the file of which this is so
abbrev pub over : {K U C : Type 0} → Ghosts K → FileFacts K U C → OverFile K U C
over keeper facts = record { keeper = keeper; facts = facts }
