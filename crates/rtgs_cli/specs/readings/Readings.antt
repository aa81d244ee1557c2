-- What a run that shows a reading did with the desk over the file of its book, what it has to print, why it is refused,
-- and what it leaves on standard output.
use Rattle.std.specs.Prelude.{◌≡◌, ◌⊎◌, ℕ, ⊤, Bool, true, false, List, Option, None, Result, Ok, Err}
use Rattle.rtgs_book.specs.Choice.{Choice, IsGreatest}
use Rattle.rtgs_book.specs.declared.book.Book.{Book}
use Rattle.rtgs_book.specs.declared.reading.Reading.{Reading}
use Rattle.rtgs_book.specs.declared.reading.Reading.TheVariants as reading
use Rattle.rtgs_book.specs.declared.refusal.Refusal.{Refusal}
use Rattle.rtgs_book.specs.declared.refusal.Refusal.TheVariants.{StoreFault, UnknownParticipant}
use Rattle.rtgs_desk.specs.Readings.{Tells}
use Rattle.rtgs_desk.specs.Seen.{Seen}
use Rattle.rtgs_http_bodies.specs.desks.Readings.{ReadingFails, text_wanted}
use Rattle.rtgs_http_bodies.specs.desks.Written.{StillHolds, Writes, statement_wanted}
use Rattle.rtgs_statements.specs.Reads.{LeavesLines}
use Rattle.rtgs_statements.specs.declared.book_text_fault.BookTextFault.{BookTextFault}
use Rattle.rtgs_statements.specs.declared.book_text_fault.BookTextFault.TheVariants as text
use Rattle.rtgs_cli_lines.specs.declared.failure.Failure.{Failure}
use Rattle.rtgs_cli_lines.specs.declared.failure.Failure.TheVariants.{Refused}
use Rattle.rtgs_cli_lines.specs.declared.printed.Printed.{Printed}
use Rattle.rtgs_book_file.specs.OverFile.{OverFile}
use Rattle.rtgs_cli.specs.files.Done.{IsDone}
use Rattle.rtgs_cli.specs.files.Printing.{PrintsText}
use Rattle.rtgs_cli.specs.files.Touching.{IsClosed, IsNotOpened}
use Rattle.rtgs_cli.specs.declared.files.used.Used.{Used}
use Rattle.rtgs_cli.specs.declared.files.used.Used.TheVariants as used
use Rattle.rtgs_cli.specs.declared.files.touched.Touched.{Touched}
use Rattle.rtgs_cli.specs.readings.Outcomes.{outcome_of_text}

-- the text of a reading is gathered before a byte of it is printed, as of each but a statement
abbrev pub is_gathered : Reading → Bool
is_gathered (reading.Statement code date) = false
is_gathered asked = true

module _ {K U C : Type 0} (file : OverFile K U C) where
  -- The text that is wanted of the book, with its greatest choice, was read, or what refuses it; or the store failed.
  -- Nothing was done to the book. `text_of` gives the bytes of what was read.
  abbrev pub IsRead : {V : Type 0} → (V → List ℕ) → Reading → Result V Refusal → Seen K → Type 0
  IsRead text_of reading read left = IsDone file left (λ book. StillHolds file.keeper book left
      × ((choice : Choice) → IsGreatest book choice
      → Tells text_of (text_wanted book choice reading) read ⊎ ReadingFails file.keeper book reading left read))

  -- The statement that is wanted of the book was written, or a beginning of it before memory ran out, or the store
  -- or the writer failed; or what refuses it came, and nothing was written. Nothing was done to the book.
  abbrev pub IsWritten : List ℕ → ℕ → Result ⊤ BookTextFault → Option (List ℕ) → Option (List ℕ) → Seen K → Type 0
  IsWritten code date written old new left = IsDone file left (λ book. StillHolds file.keeper book left
      × Writes old (statement_wanted book code date) written new)

module _ {A K U C F P N : Type 0} (book_file : OverFile K U C) where
  -- what a run that shows a reading has to print: the text that it read
  abbrev pub HasRead : Reading → Touched A U C (Used F P N) → List ℕ → Option Refusal → Type 0
  HasRead reading touched text stopped =
      (left : Seen K) × IsClosed book_file left used.Nothing touched
      × IsRead book_file (λ read. read) reading (Ok text) left × (stopped ≡ None)

  -- why a run that shows a reading is refused
  abbrev pub IsNotRead : Reading → Touched A U C (Used F P N) → Failure → Type 0
  IsNotRead reading touched why =
      IsNotOpened book_file touched why
      ⊎ ((refusal : Refusal) × (left : Seen K) × IsClosed book_file left used.Nothing touched
      × IsRead book_file (λ read. read) reading (Err refusal) left × (why ≡ Refused refusal))

  -- A participant's statement was printed row by row, and the desk was left so.
  pub record IsStated (touched : Touched A U C (Used F P N)) (code : List ℕ) (date : ℕ)
      (written : Result ⊤ BookTextFault) (old new : Option (List ℕ)) : Type 0 where
    pub left : Seen K
    pub closed : IsClosed book_file left used.Nothing touched
    pub stated : IsWritten book_file code date written old new left
    -- the store's fault is reported where the store failed, and nowhere else
    pub fault : written ≡ Err (text.Refused StoreFault) → book_file.keeper.has_failed left.keeper ≡ true
    -- whole lines were printed, whatever the disk gave back, unless the writer failed
    pub lines : LeavesLines written old new

  -- a run with this reading printed a statement row by row, and came to this
  abbrev pub States : Reading → Touched A U C (Used F P N) → Result Printed Failure → Option (List ℕ)
      → Option (List ℕ) → Type 0
  States asked touched outcome old new =
      (code : List ℕ) × (date : ℕ) × (written : Result ⊤ BookTextFault) × (asked ≡ reading.Statement code date)
      × (outcome ≡ outcome_of_text written) × IsStated touched code date written old new

  -- a run with this reading printed what it had to, and a statement row by row
  abbrev pub Shows : Reading → Touched A U C (Used F P N) → Printed → Option (List ℕ) → Option (List ℕ) → Type 0
  Shows reading touched printed old new =
      ((is_gathered reading ≡ true) × PrintsText (HasRead reading touched) printed old new)
      ⊎ States reading touched (Ok printed) old new

  -- Why a run with this reading is refused, and what it leaves on standard output: nothing, or the beginning of a
  -- statement that was refused after some of its rows. An unknown code is refused before a byte, and nothing is printed
  -- of a statement where no desk was opened.
  abbrev pub Denies : {O : Type 0} → (O → Option (List ℕ)) → Reading → Touched A U C (Used F P N) → Failure → O → O
      → Type 0
  Denies contents reading touched why out out' =
      ((IsNotOpened book_file touched why ⊎ ((is_gathered reading ≡ true) × IsNotRead reading touched why))
      × (out' ≡ out))
      ⊎ (States reading touched (Err why) (contents out) (contents out')
      × (why ≡ Refused UnknownParticipant → out' ≡ out))
