-- A run of the program as a session: what the files of a book hold before the run and after it, which commands the run
-- gives the desk over them, and what it says of their replies.
use Rattle.std.specs.Prelude.{◌≡◌, ◌⊎◌, ℕ, List, [], ◌∷◌, map, length, take, Option, None, Ok, Err}
use Rattle.std.specs.declared.snapshot.Snapshot.{Snapshot}
use Rattle.sqlite_disk.specs.declared.Disk as disk
use Rattle.sqlite_disk.specs.declared.Files.{Files}
use Rattle.sqlite_disk.specs.declared.Start as opening
use Rattle.sqlite_disk.specs.declared.modelled.Modelled.{Modelled}
use Rattle.sqlite_std_file.specs.declared.host.Host.{Host}
use Rattle.sqlite_std_file.specs.contracts.host.HostCalls.TheImpl as host_calls
use Rattle.sqlite.specs.Files.{file_state, HoldsDatabase}
use Rattle.sqlite.specs.Held.{Held}
use Rattle.sqlite.specs.Recovery.{Image}
use Rattle.sqlite.specs.State.{HasCleanDisk}
use Rattle.sqlite.specs.Tree.{Trees}
use Rattle.sqlite.specs.WalFiles.{image_at, outcomes}
use Rattle.sqlite.specs.WalReads.{AreClean}
use Rattle.sqlite.specs.declared.FileStore.{FileStore}
use Rattle.rtgs_book.specs.declared.book.Book.{Book}
use Rattle.rtgs_book.specs.declared.command.Command.{Command}
use Rattle.rtgs_book.specs.declared.new_order.NewOrder.{NewOrder}
use Rattle.rtgs_book.specs.declared.refusal.Refusal.{Refusal}
use Rattle.rtgs_book.specs.declared.refusal.Refusal.TheVariants.{OutOfMemory}
use Rattle.rtgs_book.specs.Books.{new_book}
use Rattle.rtgs_book.specs.Calm.{IsCalm}
use Rattle.rtgs_book.specs.Outcome.{Reply, own_of}
use Rattle.rtgs_book.specs.Session.{IsSession}
use Rattle.rtgs_desk.specs.batches.Batches.{StopsAfter, orders_of, replies_of, with_stop}
use Rattle.rtgs_order_files.specs.Results.{results_text}
use Rattle.rtgs_order_files.specs.declared.batch_result.RowReply.{RowReply}
use Rattle.rtgs_http_server.specs.Requests.{AreAsked}
use Rattle.rtgs_http_server.specs.declared.port.Port.{Port}
use Rattle.rtgs_book_file.specs.Closed.{LeavesClosed, LeavesNoMore}
use Rattle.rtgs_book_file.specs.stored_desk.Migrated.{AreSomeTablesOf}
use Rattle.rtgs_book_file.specs.stored_desk.Stored.{AreTablesOf}
use Rattle.rtgs_book_file.specs.declared.abandoned_book.AbandonedBook.{AbandonedBook}
use Rattle.rtgs_book_file.specs.declared.cause.Cause.{Cause}
use Rattle.rtgs_book_file.specs.declared.cause.Cause.TheVariants.{Abandoned}
use Rattle.rtgs_book_file.specs.declared.closed_files.ClosedFiles.{ClosedFiles}
use Rattle.rtgs_book_file.specs.declared.released.Released.{Released}
use Rattle.rtgs_book_file.specs.declared.unopened.Unopened.{Unopened}
use Rattle.rtgs_cli_arguments.specs.requests.Requests.{JudgedRequest}
use Rattle.rtgs_cli_arguments.specs.declared.requests.request.Request.TheVariants as ask
use Rattle.rtgs_cli_lines.specs.Failures.{failure_line as refusal_line}
use Rattle.rtgs_cli_lines.specs.Lines.{done_line}
use Rattle.rtgs_cli_lines.specs.Texts.{Prints}
use Rattle.rtgs_cli_lines.specs.declared.done.Done.TheVariants.{Answered}
use Rattle.rtgs_cli_lines.specs.declared.ended.Ended.{Ended}
use Rattle.rtgs_cli_lines.specs.declared.ended.Ended.TheVariants as ended
use Rattle.rtgs_cli_lines.specs.declared.failure.Failure.TheVariants.{Refused}
use Rattle.rtgs_cli_lines.specs.declared.printed.Printed.{Printed}
use Rattle.rtgs_cli.specs.Runs.{Traces}
use Rattle.rtgs_cli.specs.Writers.{Writers, HasTaken}
use Rattle.rtgs_cli.specs.declared.files.touched.Touched.TheVariants as traces
use Rattle.rtgs_cli.specs.declared.files.used.Used.{Used}
use Rattle.rtgs_cli.specs.declared.imports.order_file.OrderFile.{OrderFile}
use Rattle.rtgs_cli.specs.declared.serving.no_port.NoPort.{NoPort}
use Rattle.rtgs_cli.specs.files.Printing.{ended_line}
use Rattle.rtgs_cli.specs.imports.Imports.{AreReadFrom}

-- ---- the files

-- the files hold a database with the tables of the book
abbrev pub AreFilesOf : Book → Image → Type 0
AreFilesOf book files = (trees : Trees) × ∥ HoldsDatabase files trees ∥₁ × AreTablesOf book trees

-- the book with which a run begins: the one that the files hold, in tables of any version where they are to be brought
-- to the newest; and the new one where it is to be made
abbrev pub BeginsWith : JudgedRequest → Image → Book → Type 0
BeginsWith (ask.Make file) held start = start ≡ new_book
BeginsWith (ask.Migrate file) held start =
    (trees : Trees) × ∥ HoldsDatabase held trees ∥₁ × AreSomeTablesOf start trees
BeginsWith (ask.Submit file command) held start = AreFilesOf start held
BeginsWith (ask.Import file sender orders) held start = AreFilesOf start held
BeginsWith (ask.Read file reading) held start = AreFilesOf start held
BeginsWith (ask.Serve file port count operator) held start = AreFilesOf start held

-- ---- the commands, and what is said of their replies

-- what a run met beside the file of its book
abbrev pub Beside : Type 0
Beside = Used (Snapshot OrderFile) (Snapshot Port) (Snapshot NoPort)

abbrev pub AreNone : List Command → List Reply → Type 0
AreNone commands replies = (commands ≡ []) × (replies ≡ [])

module _ {O E : Type 0} (writers : Writers O E) where
  -- this text was printed, as far as standard output took it; and the batch whose text it is stopped so, if it did
  abbrev pub IsPrinted : List ℕ → Option Refusal → Printed → Type 0
  IsPrinted text stopped printed =
      Prints text stopped printed (writers.out.contents writers.out.before) (writers.out.contents writers.out.after)

  -- an answer was printed, a refusal reported
  abbrev pub TellsReply : Reply → Ended → Type 0
  TellsReply (Ok answer) (ended.Printed printed) = IsPrinted (ended_line (done_line (Answered answer))) None printed
  TellsReply (Err refusal) (ended.Refused failure sent) =
      (failure ≡ Refused refusal) × HasTaken sent writers.err (ended_line (refusal_line failure))
  TellsReply reply ends = ⊥

  -- the results of a batch were printed, or memory ran out for them
  abbrev pub TellsResults : List ℕ → Option Refusal → Ended → Type 0
  TellsResults text stopped (ended.Printed printed) = IsPrinted text stopped printed
  TellsResults text stopped (ended.Refused failure sent) = failure ≡ Refused OutOfMemory
  TellsResults text stopped ends = ⊥

  -- The commands are the orders of the rows of the order file that the run read, up to the one at which the batch
  -- stopped; and the results that were printed show their replies.
  pub record AreOfABatch (sender : List ℕ) (beside : Beside) (ends : Ended) (commands : List Command)
      (replies : List Reply) : Type 0 where
    pub rows : List NewOrder
    pub read : AreReadFrom beside rows
    pub told : List RowReply
    pub stopped : Option Refusal
    pub stops : StopsAfter (length told) (length rows) stopped
    -- the desk's whole replies, of which the results show the own part
    pub given : List Reply
    pub shown : map own_of given ≡ replies_of told
    pub orders : commands ≡ orders_of sender (take (length (with_stop given stopped)) rows)
    pub replied : replies ≡ with_stop given stopped
    pub tells : TellsResults (results_text rows told stopped) stopped ends

  -- The commands that a run with this request gave, with these replies, by how it ended: the one that was asked for;
  -- the orders of an order file, or none where it was refused; those that connections asked for, or none where no port
  -- was had; and for all others none.
  abbrev pub Gives : JudgedRequest → Beside → Ended → Book → List Command → List Reply → Type 0
  Gives (ask.Submit file command) beside ends start commands replies =
      (reply : Reply) × (commands ≡ command ∷ []) × (replies ≡ reply ∷ []) × TellsReply reply ends
  Gives (ask.Import file sender orders) beside (ended.Printed printed) start commands replies =
      AreOfABatch sender beside (ended.Printed printed) commands replies
  Gives (ask.Import file sender orders) beside ends start commands replies =
      AreOfABatch sender beside ends commands replies ⊎ AreNone commands replies
  Gives (ask.Serve file port count operator) beside (ended.Printed printed) start commands replies =
      AreAsked operator start commands replies
  Gives (ask.Serve file port count operator) beside ends start commands replies = AreNone commands replies
  Gives (ask.Make file) beside ends start commands replies = AreNone commands replies
  Gives (ask.Migrate file) beside ends start commands replies = AreNone commands replies
  Gives (ask.Read file reading) beside ends start commands replies = AreNone commands replies

-- ---- the session

module _ {D : Type 0} {g : disk.Ghosts D} where
  -- a crash may leave these files: they hold a database that the store of the connection may leave
  abbrev pub MayLeaveFiles : Held (FileStore D g) → Image → Type 0
  MayLeaveFiles conn files = (trees : Trees) × ∥ HoldsDatabase files trees ∥₁ × (file_state conn).may_leave trees

  -- whatever files a crash leaves hold a book that the session of these commands may find, and which is calm
  abbrev pub LeavesSession : Held (FileStore D g) → Book → List Command → List Reply → Type 0
  LeavesSession conn start commands replies = (files : Image) → MayLeaveFiles conn files
      → (found : Book) × AreFilesOf found files × IsCalm found
      × IsSession (record { start = start; commands = commands; replies = replies; found = found })

  -- where the disk gave back what was written to it, the run was a session from the calm book with which it began, by
  -- the commands that it gave and their replies
  abbrev pub IsSessionOver : (Book → Type 0) → (Book → List Command → List Reply → Type 0) → Held (FileStore D g)
      → Type 0
  IsSessionOver Begins Gave conn = HasCleanDisk (file_state conn) → (start : Book) → Begins start → IsCalm start
      → (commands : List Command) × (replies : List Reply) × Gave start commands replies
      × LeavesSession conn start commands replies

module _ {D : Type 0} (g : disk.Ghosts D) where
  -- a run that closed these files
  pub record WasSession (Begins : Book → Type 0) (Gave : Book → List Command → List Reply → Type 0)
      (closed : ClosedFiles D) : Type 0 where
    -- the connection, before it was closed
    pub conn : Held (FileStore D g)
    pub session : IsSessionOver Begins Gave conn
    pub left : LeavesClosed conn closed
    -- where the log was copied into the file, and the disk gave back what was written to both, these are all files that
    -- a crash can leave
    pub copied : closed.uncopied ≡ None → AreClean g closed.files.log closed.files.db
        → HasCleanDisk (file_state conn)
        × ((files : Image) → outcomes g closed.files.log closed.files.db files → MayLeaveFiles conn files)

  -- a run that abandoned these files: a session without commands from the book that they hold
  pub record WasNoSession (held : Image) (abandoned : Files D) : Type 0 where
    -- the connection, before it was abandoned
    pub conn : Held (FileStore D g)
    pub session : IsSessionOver (λ start. AreFilesOf start held) (λ start commands replies. AreNone commands replies)
        conn
    pub left : LeavesNoMore conn abandoned

module _ {S : Type 0} (first : opening.Ghosts S) (g : disk.Ghosts (Modelled Host S host_calls.ghosts first)) where
  -- a run whose file was refused: where it had opened a store, a session without commands
  abbrev pub WasRefused : Cause (AbandonedBook S first) → Type 0
  WasRefused (Abandoned fault left) = WasNoSession g (image_at first) left.files.value
  WasRefused cause = Unit {0}

  -- What a run was, by how it ended and what it touched: a session over the file that it closed, of the commands that a
  -- request asks for; one without commands over a file that was refused; and where it opened no store, no session.
  abbrev pub WasRun : {A O E : Type 0} → Writers O E → Ended → Traces A (Unopened S first) (Released S first) → Type 0
  WasRun writers ends (traces.Nothing start) = Unit {0}
  WasRun writers ends (traces.Refused unopened) = WasRefused unopened.cause
  WasRun writers ends (traces.Book closed beside) = (request : JudgedRequest)
      × WasSession g (BeginsWith request (image_at first)) (Gives writers request beside ends) closed.files.value
