-- What a run that serves connections did with the file of its book, what it prints, and why it is refused.
use Rattle.std.specs.Prelude.{◌≡◌, ◌⊎◌, ◌++◌, [], ℕ, Bool, List, Option, None, Some, if◌then◌else◌}
use Rattle.std.specs.Io.KnownBytes.{Appends}
use Rattle.std.specs.IoError.{error_kind}
use Rattle.std.specs.declared.io.ErrorKind.{ErrorKind}
use Rattle.std.specs.declared.io.ErrorKind.TheVariants as kind
use Rattle.std.specs.declared.snapshot.Snapshot.{Snapshot}
use Rattle.rtgs_book.specs.declared.book.Book.{Book}
use Rattle.rtgs_book.specs.declared.command.Command.{Command}
use Rattle.rtgs_book.specs.declared.refusal.Refusal.{Refusal}
use Rattle.rtgs_book.specs.declared.refusal.Refusal.TheVariants.{OutOfMemory, Failed}
use Rattle.rtgs_book.specs.Outcome.{Reply}
use Rattle.rtgs_desk.specs.Seen.{Seen}
use Rattle.rtgs_cli_lines.specs.Lines.{done_line}
use Rattle.rtgs_cli_lines.specs.declared.done.Done.TheVariants.{Listening, Served}
use Rattle.rtgs_cli_lines.specs.declared.failure.Failure.{Failure}
use Rattle.rtgs_cli_lines.specs.declared.failure.Failure.TheVariants.{Refused, NoListen}
use Rattle.rtgs_cli_lines.specs.declared.printed.Printed.{Printed}
use Rattle.rtgs_cli_lines.specs.declared.printed.Printed.TheVariants.{Whole}
use Rattle.rtgs_http_server.specs.exchange.Handling.{Makes}
use Rattle.rtgs_http_server.specs.Requests.{AreAsked}
use Rattle.rtgs_http_server.specs.declared.port.Port.{Port}
use Rattle.rtgs_book_file.specs.OverFile.{OverFile}
use Rattle.rtgs_cli.specs.files.Done.{IsDone, IsIdle}
use Rattle.rtgs_cli.specs.files.Printing.{ended_line, PrintsText}
use Rattle.rtgs_cli.specs.files.Touching.{used_of, IsClosed, IsNotOpened}
use Rattle.rtgs_cli.specs.declared.files.used.Used.{Used}
use Rattle.rtgs_cli.specs.declared.files.used.Used.TheVariants as used
use Rattle.rtgs_cli.specs.declared.files.touched.Touched.{Touched}
use Rattle.rtgs_cli.specs.declared.serving.no_port.NoPort.{NoPort}
use Rattle.rtgs_cli.specs.declared.serving.service.Service.{Service}

-- lack of memory, or a port that cannot be had
abbrev pub failure_of_listening : ErrorKind → Failure
failure_of_listening kind.OutOfMemory = Refused OutOfMemory
failure_of_listening _ = NoListen

-- the run did not have its port, and what listening answered is reported so
abbrev pub IsNotListening : {F P : Type 0} → Used F P (Snapshot NoPort) → Failure → Type 0
IsNotListening (used.NoPort refused) why = why ≡ failure_of_listening (error_kind refused.value.error)
IsNotListening _ why = ⊥

-- that connections are taken on this port, and then how many were served, unless the desk has failed
abbrev pub server_text : ℕ → ℕ → Bool → List ℕ
server_text port count failed = ended_line (done_line (Listening port))
    ++ (if failed then [] else ended_line (done_line (Served count)))

-- Of this many connections on a port some are left. None is where all was printed; and all are, where the line that
-- says on which port they are taken was not printed whole.
abbrev pub TakesAsPrinted : ℕ → ℕ → ℕ → Printed → Option (List ℕ) → Option (List ℕ) → Type 0
TakesAsPrinted port count left printed old new = (printed ≡ Whole → left ≡ 0)
    × ((left ≡ count) ⊎ ((rest : List ℕ) × Appends old new (ended_line (done_line (Listening port)) ++ rest)))

-- the same of a service and the port that a run met
abbrev pub TakesAt : {F N : Type 0} → Service → Used F (Snapshot Port) N → Printed → Option (List ℕ) → Option (List ℕ)
    → Type 0
TakesAt service (used.Port left) printed old new =
    TakesAsPrinted service.port service.count left.value.left printed old new
TakesAt service _ printed old new = ⊥

-- a server stops where its desk has failed
abbrev pub stop_of_desk : Bool → Option Refusal
stop_of_desk failed = if failed then Some Failed else None

module _ {K U C : Type 0} (file : OverFile K U C) where
  -- what requests that were served make of a book that the desk over the file held, with the commands that they asked
  -- for under the operator's digest and no others, and what a stop then leaves
  abbrev pub ServedOver : List ℕ → Book → Seen K → Type 0
  ServedOver operator book desk = (commands : List Command) × (replies : List Reply)
      × AreAsked operator book commands replies × Makes file.keeper book commands replies desk
      × file.facts.stop_leaves desk book commands replies

  -- Requests were served under the operator's digest: the commands that they asked for, and no others, are one session,
  -- and a stop leaves a book that it may find.
  abbrev pub IsServed : List ℕ → Seen K → Type 0
  IsServed operator left = IsDone file left (λ book. ServedOver operator book left)

module _ {A K U C F : Type 0} (file : OverFile K U C) where
  -- what a run that serves has to print, and where it stops: the lines of its server
  abbrev pub HasServed : Service → Touched A U C (Used F (Snapshot Port) (Snapshot NoPort)) → List ℕ
      → Option Refusal → Type 0
  HasServed service touched text stopped =
      (left : Seen K) × IsClosed file left (used_of touched) touched × IsServed file service.operator left
      × (text ≡ server_text service.port service.count (file.keeper.has_failed left.keeper))
      × (stopped ≡ stop_of_desk (file.keeper.has_failed left.keeper))

  -- the run printed these, as far as standard output took them, and took its connections as it said
  abbrev pub Serves : Service → Touched A U C (Used F (Snapshot Port) (Snapshot NoPort)) → Printed
      → Option (List ℕ) → Option (List ℕ) → Type 0
  Serves service touched printed old new =
      PrintsText (HasServed service touched) printed old new × TakesAt service (used_of touched) printed old new

  -- why such a run is refused
  abbrev pub IsNotServed : Touched A U C (Used F (Snapshot Port) (Snapshot NoPort)) → Failure → Type 0
  IsNotServed touched why =
      IsNotOpened file touched why ⊎ (IsNotListening (used_of touched) why × (left : Seen K)
      × IsClosed file left (used_of touched) touched × IsIdle file left)
