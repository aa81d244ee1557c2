-- What a run prints for its request, why it is refused, and what it leaves on its two writers.
use Rattle.std.specs.Prelude.{◌≡◌, ◌≢◌, ◌⊎◌, ℕ, ⊤, Bool, true, false, List, Option, Some, None, Result, Ok, Err}
use Rattle.std.specs.declared.snapshot.Snapshot.{Snapshot}
use Rattle.clap.specs.Words.{kind_of}
use Rattle.clap.specs.declared.error.Error.{Error}
use Rattle.clap.specs.declared.error.kind.ErrorKind.{ErrorKind}
use Rattle.clap.specs.declared.error.kind.ErrorKind.TheVariants as kind
use Rattle.rtgs_refusals.specs.declared.refusal_kind.RefusalKind.{RefusalKind}
use Rattle.rtgs_refusal_texts.specs.Texts.{explanation}
use Rattle.rtgs_money.specs.declared.lexical.Lexical.{Lexical}
use Rattle.rtgs_book.specs.declared.refusal.Refusal.TheVariants.{OutOfMemory}
use Rattle.rtgs_cli_arguments.specs.declared.invocation.Invocation.{Invocation}
use Rattle.rtgs_cli_arguments.specs.declared.invocation.Invocation.TheVariants.{Run, Refusals}
use Rattle.rtgs_cli_arguments.specs.requests.Requests.{JudgedRequest, ReadsRequest, Words}
use Rattle.rtgs_cli_arguments.specs.declared.requests.request.Request.TheVariants.{Make, Migrate, Submit, Import, Read}
use Rattle.rtgs_cli_arguments.specs.declared.requests.request.Request.TheVariants.{Serve}
use Rattle.rtgs_cli_lines.specs.Failures.{failure_line as refusal_line}
use Rattle.rtgs_cli_lines.specs.declared.ended.Ended.{Ended}
use Rattle.rtgs_cli_lines.specs.declared.ended.Ended.TheVariants as ended
use Rattle.rtgs_cli_lines.specs.declared.failure.Failure.{Failure}
use Rattle.rtgs_cli_lines.specs.declared.failure.Failure.TheVariants.{Form, Refused}
use Rattle.rtgs_cli_lines.specs.declared.printed.Printed.{Printed}
use Rattle.rtgs_output.specs.declared.writer_failed.WriterFailed.{WriterFailed}
use Rattle.rtgs_http_server.specs.declared.port.Port.{Port}
use Rattle.rtgs_book_file.specs.OverFile.{OverFile}
use Rattle.rtgs_cli.specs.files.Printing.{ended_line, PrintsText}
use Rattle.rtgs_cli.specs.files.Touching.{IsNoBookMade, IsNotMigrated, IsOf, IsUntouched}
use Rattle.rtgs_cli.specs.declared.files.used.Used.{Used}
use Rattle.rtgs_cli.specs.declared.files.touched.Touched.{Touched}
use Rattle.rtgs_cli.specs.commands.Commands.{HasMade, HasMigrated, HasAnswered, IsNotAnswered}
use Rattle.rtgs_cli.specs.imports.Imports.{HasSent, IsNotImported}
use Rattle.rtgs_cli.specs.declared.imports.order_file.OrderFile.{OrderFile}
use Rattle.rtgs_cli.specs.readings.Readings as readings
use Rattle.rtgs_cli.specs.serving.Serving.{Serves, IsNotServed}
use Rattle.rtgs_cli.specs.declared.serving.no_port.NoPort.{NoPort}
use Rattle.rtgs_cli.specs.Writers.{Writer, Writers, HasTakenNothing, HasTaken}

-- help, or the version, and no fault of the command line
abbrev pub is_help : ErrorKind → Bool
is_help kind.DisplayHelp = true
is_help kind.DisplayVersion = true
is_help _ = false

-- What is left on the writers where the command line itself has this kind of answer: help on standard output alone, or
-- a fault of the command line on standard error alone. Lack of memory is refused, and can come in place of both.
abbrev pub IsExplained : {O E : Type 0} → ErrorKind → Writers O E → Ended → Type 0
IsExplained what writers (ended.Printed printed) = ⊥
IsExplained what writers (ended.Helped sent) =
    (is_help what ≡ true) × ((text : List ℕ) × HasTaken sent writers.out text) × HasTakenNothing writers.err
IsExplained what writers (ended.Refused failure sent) =
    (failure ≡ Refused OutOfMemory) × HasTaken sent writers.err (ended_line (refusal_line failure))
    × HasTakenNothing writers.out
IsExplained what writers (ended.Misused sent) =
    (is_help what ≡ false) × (what ≢ kind.OutOfMemory) × ((text : List ℕ) × HasTaken sent writers.err text)
    × HasTakenNothing writers.out

-- what is said of a refusal, or of each, is left on standard output, as far as that took it
abbrev pub AreExplained : {O : Type 0} → Option RefusalKind → Writer O → Ended → Type 0
AreExplained which out ends =
    (sent : Result ⊤ WriterFailed) × (ends ≡ ended.Helped sent) × HasTaken sent out (explanation which)

-- the file that a request names
abbrev pub file_of : JudgedRequest → List ℕ
file_of (Make file) = file.now
file_of (Migrate file) = file.now
file_of (Submit file command) = file.now
file_of (Import file sender orders) = file.now
file_of (Read file reading) = file.now
file_of (Serve file port count operator) = file.now

-- what a run touched, where a file that was refused is a U, and one that was closed a C
abbrev pub Traces : (A U C : Type 0) → Type 0
Traces A U C = Touched A U C (Used (Snapshot OrderFile) (Snapshot Port) (Snapshot NoPort))

module _ {A K U C : Type 0} (book_file : OverFile K U C) where
  -- the run printed what it had to, as far as standard output took it
  abbrev pub PrintsFor : JudgedRequest → Traces A U C → Printed → Option (List ℕ) → Option (List ℕ) → Type 0
  PrintsFor (Make file) touched printed old new = PrintsText (HasMade book_file touched) printed old new
  PrintsFor (Migrate file) touched printed old new = PrintsText (HasMigrated book_file touched) printed old new
  PrintsFor (Submit file command) touched printed old new =
      PrintsText (HasAnswered book_file command touched) printed old new
  PrintsFor (Import file sender orders) touched printed old new =
      PrintsText (HasSent book_file sender touched) printed old new
  PrintsFor (Read file reading) touched printed old new = readings.Shows book_file reading touched printed old new
  PrintsFor (Serve file port count operator) touched printed old new =
      Serves book_file (record { port = port; count = count; operator = operator }) touched printed old new

  -- Why a run with this request is refused, and what it leaves on standard output: nothing, or the beginning of a
  -- statement that was refused after some of its rows.
  abbrev pub Denies : {O : Type 0} → JudgedRequest → Writer O → Traces A U C → Failure → Type 0
  Denies (Make file) out touched why = IsNoBookMade book_file touched why × HasTakenNothing out
  Denies (Migrate file) out touched why = IsNotMigrated book_file touched why × HasTakenNothing out
  Denies (Submit file command) out touched why = IsNotAnswered book_file command touched why × HasTakenNothing out
  Denies (Import file sender orders) out touched why = IsNotImported book_file sender touched why × HasTakenNothing out
  Denies (Read file reading) out touched why =
      readings.Denies book_file out.contents reading touched why out.before out.after
  Denies (Serve file port count operator) out touched why = IsNotServed book_file touched why × HasTakenNothing out

  -- the words spell a request for which this was printed, and whose file was touched
  abbrev pub IsCarriedOut : {O : Type 0} → Words → Writer O → Traces A U C → Printed → Type 0
  IsCarriedOut words out touched printed =
      (request : JudgedRequest) × ReadsRequest words (Ok request)
      × PrintsFor request touched printed (out.contents out.before) (out.contents out.after)
      × IsOf book_file (file_of request) touched

  -- a word is not of its form, or the request that the words spell is refused, and its file was touched
  abbrev pub IsDenied : {O : Type 0} → Words → Writer O → Traces A U C → Failure → Type 0
  IsDenied words out touched why =
      ((form : Lexical) × ReadsRequest words (Err form) × (why ≡ Form form) × IsUntouched book_file touched
      × HasTakenNothing out)
      ⊎ ((request : JudgedRequest) × ReadsRequest words (Ok request) × Denies request out touched why
      × IsOf book_file (file_of request) touched)

  -- What a run that was given these words did, by how it ended, and leaves on its writers: what was printed for the
  -- request that they spell stands on standard output alone, and why it was refused on standard error alone. Rows of a
  -- statement that was refused behind them stay on standard output.
  abbrev pub EndsFor : {O E : Type 0} → Words → Writers O E → Ended → Traces A U C → Type 0
  EndsFor words writers (ended.Printed printed) touched =
      IsCarriedOut words writers.out touched printed × HasTakenNothing writers.err
  EndsFor words writers (ended.Refused failure sent) touched =
      HasTaken sent writers.err (ended_line (refusal_line failure)) × IsDenied words writers.out touched failure
  EndsFor words writers (ended.Helped sent) touched = ⊥
  EndsFor words writers (ended.Misused sent) touched = ⊥

  -- The same of a run whose command line was read so: the words of a request, the refusals to explain, none, or what
  -- the command line itself has to say.
  abbrev pub EndsAfter : {O E : Type 0} → Result (Option Invocation) Error → Writers O E → Ended → Traces A U C → Type 0
  EndsAfter (Ok (Some (Run words))) writers ends touched = EndsFor words writers ends touched
  EndsAfter (Ok (Some (Refusals which))) writers ends touched =
      AreExplained which writers.out ends × HasTakenNothing writers.err × IsUntouched book_file touched
  EndsAfter (Ok None) writers ends touched =
      (ends ≡ ended.Misused (Ok _)) × HasTakenNothing writers.out × HasTakenNothing writers.err
      × IsUntouched book_file touched
  EndsAfter (Err error) writers ends touched =
      IsExplained (kind_of error) writers ends × IsUntouched book_file touched

  -- the same of a run whose command line was read in some way
  abbrev pub Ends : {O E : Type 0} → Writers O E → Ended → Traces A U C → Type 0
  Ends writers ends touched = (read : Result (Option Invocation) Error) × EndsAfter read writers ends touched
