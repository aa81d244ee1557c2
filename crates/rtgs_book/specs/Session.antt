-- A session with a desk, from its opening to the book that the next opening finds.
use Rattle.std.specs.Prelude.{◌≡◌, ◌⊎◌, ◌+◌, ◌≤◌, Bool, true, false, if◌then◌else◌, List, [], ◌∷◌, filter, length}
use Rattle.std.specs.Prelude.{Option, Some, None, Err}
use Rattle.rtgs_book.specs.declared.refusal.Refusal.TheVariants.{OutOfMemory, StoreFault, Failed}
use Rattle.rtgs_book.specs.Books.{Book}
use Rattle.rtgs_book.specs.Outcome.{Command, Reply}
use Rattle.rtgs_book.specs.Step.{Step}
use Rattle.rtgs_book.specs.Run.{Run}

-- the desk has judged the command: it gave no lack of memory, no fault of the store, and had not failed
abbrev pub is_judged : Reply → Bool
is_judged (Err OutOfMemory) = false
is_judged (Err StoreFault) = false
is_judged (Err Failed) = false
is_judged reply = true

abbrev pub is_store_fault : Reply → Bool
is_store_fault (Err StoreFault) = true
is_store_fault reply = false

-- the commands that were answered, in order
abbrev pub answered : List Command → List Reply → List Command
answered (command ∷ commands) (reply ∷ replies) = if is_judged reply then command
    ∷ answered commands replies else answered commands replies
answered commands replies = []

-- their replies
abbrev pub answers : List Reply → List Reply
answers replies = filter is_judged replies

-- the command that may have acted or not: the one that met a fault of the store, and else the one that has no reply yet
abbrev pub open_command : List Command → List Reply → Option Command
open_command [] replies = None
open_command (command ∷ commands) [] = Some command
open_command (command ∷ commands)
    (reply ∷ replies) = if is_store_fault reply then Some command else open_command commands replies

-- a book that may be found: this one, or the one after the open command
abbrev pub MayFind : Book → Option Command → Book → Type 0
MayFind book None found = found ≡ book
MayFind book (Some command) found = (found ≡ book) ⊎ ((reply : Reply) × Step book command reply found)

pub record Session : Type 0 where
  pub start : Book
  pub commands : List Command
  pub replies : List Reply
  -- what the next opening finds
  pub found : Book

-- Each command has a reply, but perhaps the last, which is running. The replies are those of a run, and what is found
-- is its book or the one after the open command.
pub record IsSession (s : Session) : Type 0 where
  pub replied : length s.replies ≤ length s.commands
  pub running : length s.commands ≤ length s.replies + 1
  pub last : Book
  pub run : Run s.start (answered s.commands s.replies) (answers s.replies) last
  pub found : MayFind last (open_command s.commands s.replies) s.found

-- sessions one after another, each from the book that was found
abbrev pub IsLife : Book → List Session → Book → Type 0
IsLife book [] found = found ≡ book
IsLife book (s ∷ later) found = (s.start ≡ book) × IsSession s × IsLife s.found later found
