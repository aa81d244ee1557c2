-- What a run that submits a file of orders did with the desk over the file of its book, what it has to print, and why
-- it is refused.
use Rattle.std.specs.Prelude.{◌≡◌, ◌⊎◌, ℕ, List, length, take, Option}
use Rattle.std.specs.declared.snapshot.Snapshot.{Snapshot}
use Rattle.rtgs_book.specs.declared.book.Book.{Book}
use Rattle.rtgs_book.specs.declared.refusal.Refusal.{Refusal}
use Rattle.rtgs_book.specs.declared.refusal.Refusal.TheVariants.{OutOfMemory}
use Rattle.rtgs_desk.specs.Seen.{Seen}
use Rattle.rtgs_desk.specs.batches.Batches.{StopsAfter, orders_of, with_stop}
use Rattle.rtgs_desk.specs.batches.Sent.{Sent}
use Rattle.rtgs_order_files.specs.Results.{results_text}
use Rattle.rtgs_order_files.specs.declared.batch_result.RowReply.{RowReply}
use Rattle.rtgs_book.specs.declared.new_order.NewOrder.{NewOrder}
use Rattle.rtgs_cli_lines.specs.declared.failure.Failure.{Failure}
use Rattle.rtgs_cli_lines.specs.declared.failure.Failure.TheVariants.{Refused}
use Rattle.rtgs_book_file.specs.OverFile.{OverFile}
use Rattle.rtgs_cli.specs.files.Done.{IsDone, IsIdle}
use Rattle.rtgs_cli.specs.files.Touching.{used_of, IsClosed, IsNotOpened}
use Rattle.rtgs_cli.specs.declared.files.used.Used.{Used}
use Rattle.rtgs_cli.specs.declared.files.used.Used.TheVariants as used
use Rattle.rtgs_cli.specs.declared.files.touched.Touched.{Touched}
use Rattle.rtgs_cli.specs.imports.Causes.{AreRowsOf, RefusesRows}
use Rattle.rtgs_cli.specs.declared.imports.order_file.OrderFile.{OrderFile}

-- the run met a file of orders, and these are its rows, as it was read
abbrev pub AreReadFrom : {P N : Type 0} → Used (Snapshot OrderFile) P N → List NewOrder → Type 0
AreReadFrom (used.Orders read) rows = AreRowsOf (λ bytes. bytes.items) read.value.answer rows
AreReadFrom _ rows = ⊥

-- the run met a file of orders, and what reading it answered refuses it so
abbrev pub IsNotSent : {P N : Type 0} → Used (Snapshot OrderFile) P N → Failure → Type 0
IsNotSent (used.Orders read) why = RefusesRows (λ bytes. bytes.items) read.value.answer why
IsNotSent _ why = ⊥

-- what rows that were submitted make of a book that the desk over the file held, and what a stop then leaves, by the
-- desk's whole replies
abbrev pub SentOver : {K U C : Type 0} → OverFile K U C → Book → List ℕ → List NewOrder → List RowReply → Option Refusal
    → Seen K → Type 0
SentOver file book sender rows replies stopped desk =
    (sent : Sent file.keeper book sender rows replies stopped desk)
    × file.facts.stop_leaves desk book (orders_of sender (take (length (with_stop sent.given stopped)) rows))
    (with_stop sent.given stopped)

module _ {K U C : Type 0} (file : OverFile K U C) where
  -- the rows of a batch were submitted, with these replies, and it stopped so, if it did
  abbrev pub IsSent : List ℕ → List NewOrder → List RowReply → Option Refusal → Seen K → Type 0
  IsSent sender rows replies stopped left =
      IsDone file left (λ book. SentOver file book sender rows replies stopped left)

module _ {A K U C P N : Type 0} (book_file : OverFile K U C) where
  -- the rows of an order file were submitted, with these replies, and the batch stopped so, if it did
  abbrev pub IsImported : Touched A U C (Used (Snapshot OrderFile) P N) → List ℕ → List NewOrder → List RowReply
      → Option Refusal → Type 0
  IsImported touched sender rows replies stopped =
      (left : Seen K) × IsClosed book_file left (used_of touched) touched
      × IsSent book_file sender rows replies stopped left
      × AreReadFrom (used_of touched) rows × StopsAfter (length replies) (length rows) stopped

  -- what a run that submits a file of orders has to print: the results of its batch
  abbrev pub HasSent : List ℕ → Touched A U C (Used (Snapshot OrderFile) P N) → List ℕ → Option Refusal → Type 0
  HasSent sender touched text stopped =
      (rows : List NewOrder) × (replies : List RowReply) × IsImported touched sender rows replies stopped
      × (text ≡ results_text rows replies stopped)

  -- the rows of an order file were submitted, and memory ran out for their results
  abbrev pub HasNoRoomForResults : Touched A U C (Used (Snapshot OrderFile) P N) → List ℕ → Failure → Type 0
  HasNoRoomForResults touched sender why =
      (why ≡ Refused OutOfMemory) × (rows : List NewOrder) × (replies : List RowReply) × (stopped : Option Refusal)
      × IsImported touched sender rows replies stopped

  -- why a run that submits a file of orders is refused
  abbrev pub IsNotImported : List ℕ → Touched A U C (Used (Snapshot OrderFile) P N) → Failure → Type 0
  IsNotImported sender touched why =
      IsNotOpened book_file touched why
      ⊎ ((IsNotSent (used_of touched) why × (left : Seen K) × IsClosed book_file left (used_of touched) touched
      × IsIdle book_file left)
      ⊎ HasNoRoomForResults touched sender why)
