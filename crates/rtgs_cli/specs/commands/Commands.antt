-- What a run that makes a book, brings its tables to the newest version, or gives the desk a command, has to print, and
-- why it is refused.
use Rattle.std.specs.Prelude.{◌≡◌, ◌⊎◌, ◌∷◌, [], Bool, true, ℕ, List, Option, None, Ok, Err, if◌then◌else◌}
use Rattle.rtgs_book.specs.declared.answer.WholeAnswer.{WholeAnswer}
use Rattle.rtgs_book.specs.declared.command.Command.{Command}
use Rattle.rtgs_book.specs.declared.refusal.Refusal.{Refusal}
use Rattle.rtgs_book.specs.Outcome.{Reply}
use Rattle.rtgs_desk.specs.Holding.{Acts}
use Rattle.rtgs_desk.specs.Replies.{IsOfItsKind}
use Rattle.rtgs_desk.specs.Seen.{Seen}
use Rattle.rtgs_cli_lines.specs.Lines.{done_line}
use Rattle.rtgs_cli_lines.specs.declared.done.Done.{Done}
use Rattle.rtgs_cli_lines.specs.declared.done.Done.TheVariants.{Made, Migrated, Repeated, Answered}
use Rattle.rtgs_cli_lines.specs.declared.failure.Failure.{Failure}
use Rattle.rtgs_cli_lines.specs.declared.failure.Failure.TheVariants.{Refused}
use Rattle.rtgs_book_file.specs.OverFile.{OverFile}
use Rattle.rtgs_cli.specs.files.Done.{IsDone}
use Rattle.rtgs_cli.specs.files.Printing.{ended_line}
use Rattle.rtgs_cli.specs.files.Touching.{IsClosed, IsNotOpened}
use Rattle.rtgs_cli.specs.declared.files.used.Used.{Used}
use Rattle.rtgs_cli.specs.declared.files.used.Used.TheVariants as used
use Rattle.rtgs_cli.specs.declared.files.touched.Touched.{Touched}
use Rattle.rtgs_cli.specs.declared.files.touched.Touched.TheVariants as traces

-- what a migration did that wrote, and one that had nothing to write
abbrev pub done_by_migration : Bool → Done
done_by_migration wrote = if wrote then Migrated else Repeated

module _ {K U C : Type 0} (file : OverFile K U C) where
  -- the desk gave the command this reply, and a stop leaves the book before it or the one that it leads to
  abbrev pub IsSubmitted : Command → Reply → Seen K → Type 0
  IsSubmitted command reply left = IsDone file left (λ book.
      Acts file.keeper book command reply left × file.facts.stop_leaves left book (command ∷ []) (reply ∷ []))

module _ {A K U C F P N : Type 0} (book_file : OverFile K U C) where
  -- what a run that makes a book has to print: the line that says so
  abbrev pub HasMade : Touched A U C (Used F P N) → List ℕ → Option Refusal → Type 0
  HasMade touched text stopped =
      ((made : C) × (touched ≡ traces.Book made used.Nothing) × book_file.facts.was_made made)
      × (text ≡ ended_line (done_line Made)) × (stopped ≡ None)

  -- what a run that brings the tables of a book to the newest version has to print: whether it did, or they were of it
  abbrev pub HasMigrated : Touched A U C (Used F P N) → List ℕ → Option Refusal → Type 0
  HasMigrated touched text stopped =
      (wrote : Bool) × ((migrated : C) × (touched ≡ traces.Book migrated used.Nothing)
      × book_file.facts.was_migrated wrote migrated) × (text ≡ ended_line (done_line (done_by_migration wrote)))
      × (stopped ≡ None)

  -- what a run that gives a command has to print: the line of its answer, and a second of what was resolved after it
  abbrev pub HasAnswered : Command → Touched A U C (Used F P N) → List ℕ → Option Refusal → Type 0
  HasAnswered command touched text stopped =
      (answer : WholeAnswer) × (left : Seen K) × IsClosed book_file left used.Nothing touched
      × IsSubmitted book_file command (Ok answer) left
      × IsOfItsKind command answer × (text ≡ ended_line (done_line (Answered answer)))
      × (stopped ≡ None)

  -- why a run that gives a command is refused
  abbrev pub IsNotAnswered : Command → Touched A U C (Used F P N) → Failure → Type 0
  IsNotAnswered command touched why =
      IsNotOpened book_file touched why
      ⊎ ((refusal : Refusal) × (left : Seen K) × IsClosed book_file left used.Nothing touched
      × IsSubmitted book_file command (Err refusal) left × (why ≡ Refused refusal))
