-- Each run of the program is a session.
use Rattle.std.specs.Prelude.{⊤}
use Rattle.std.specs.Borrow.{Bor}
use Rattle.std.proofs.Common.{◌≡◌, ◌⊎◌, ℕ, List, [], ◌∷◌, length, take, Option, None, Some, Result, Ok, Err}
use Rattle.std.proofs.Common.{IsTrue, refl, sym, subst, inl, inr}
use Rattle.sqlite_disk.specs.declared.Disk as disk
use Rattle.sqlite_disk.specs.declared.Start as opening
use Rattle.sqlite_disk.specs.declared.modelled.Modelled.{Modelled}
use Rattle.sqlite_std_file.specs.declared.host.Host.{Host}
use Rattle.sqlite_std_file.specs.contracts.host.HostCalls.TheImpl as host_calls
use Rattle.sqlite.specs.Files.{file_state}
use Rattle.sqlite.specs.FileStore.{view, recovers}
use Rattle.sqlite.specs.Held.{Held}
use Rattle.sqlite.specs.State.{HasCleanDisk}
use Rattle.sqlite.specs.Tree.{Trees}
use Rattle.sqlite.specs.WalFiles.{image_at}
use Rattle.sqlite.specs.declared.FileStore.{FileStore}
use Rattle.clap.specs.declared.error.Error.{Error}
use Rattle.rtgs_book.specs.declared.book.Book.{Book}
use Rattle.rtgs_book.specs.declared.command.Command.{Command}
use Rattle.rtgs_book.specs.declared.new_order.NewOrder.{NewOrder}
use Rattle.rtgs_book.specs.declared.reading.Reading.{Reading}
use Rattle.rtgs_book.specs.declared.refusal.Refusal.{Refusal}
use Rattle.rtgs_book.specs.Calm.{IsCalm}
use Rattle.rtgs_book.specs.Outcome.{Reply}
use Rattle.rtgs_keeper.specs.declared.keeper.Keeper.{Ghosts}
use Rattle.rtgs_rows.specs.RowLaws.{NoTablesHoldNoBook}
use Rattle.rtgs_desk.specs.Seen.{Seen}
use Rattle.rtgs_desk.specs.batches.Batches.{StopsAfter, orders_of, with_stop}
use Rattle.rtgs_http_bodies.specs.desks.Written.{StillHolds}
use Rattle.rtgs_order_files.specs.Results.{results_text}
use Rattle.rtgs_order_files.specs.declared.batch_result.RowReply.{RowReply}
use Rattle.rtgs_book_file.specs.Causes.{BarsBook, BarsMigration, IsOfItsLock, ShowsNoBook}
use Rattle.rtgs_book_file.specs.Closed.{LeavesClosed}
use Rattle.rtgs_book_file.specs.FileOnDisk.{facts_from}
use Rattle.rtgs_book_file.specs.OverFile.{OverFile, over}
use Rattle.rtgs_book_file.specs.stored_desk.Migrated.{AreSomeTablesOf}
use Rattle.rtgs_book_file.specs.stored_desk.Stored.{AreTablesOf}
use Rattle.rtgs_book_file.specs.declared.abandoned_book.AbandonedBook.{AbandonedBook}
use Rattle.rtgs_book_file.specs.declared.cause.Cause.{Cause}
use Rattle.rtgs_book_file.specs.declared.cause.Cause.TheVariants.{NotLocked, NotVacant, NotReadable, NotReached}
use Rattle.rtgs_book_file.specs.declared.cause.Cause.TheVariants.{NotStarted, Abandoned}
use Rattle.rtgs_book_file.specs.declared.released.Released.{Released}
use Rattle.rtgs_book_file.specs.declared.unopened.Unopened.{Unopened}
use Rattle.rtgs_cli_arguments.specs.declared.invocation.Invocation.{Invocation}
use Rattle.rtgs_cli_arguments.specs.declared.invocation.Invocation.TheVariants.{Run, Refusals}
use Rattle.rtgs_cli_arguments.specs.requests.Requests.{JudgedRequest, Words}
use Rattle.rtgs_cli_arguments.specs.declared.requests.request.Request.TheVariants.{Make, Migrate, Submit, Import, Read}
use Rattle.rtgs_cli_arguments.specs.declared.requests.request.Request.TheVariants.{Serve}
use Rattle.rtgs_cli_lines.specs.Failures.{failure_line as refusal_line}
use Rattle.rtgs_cli_lines.specs.Texts.{Prints}
use Rattle.rtgs_cli_lines.specs.declared.ended.Ended.{Ended}
use Rattle.rtgs_cli_lines.specs.declared.ended.Ended.TheVariants as ended
use Rattle.rtgs_cli_lines.specs.declared.failure.Failure.{Failure}
use Rattle.rtgs_cli_lines.specs.declared.printed.Printed.{Printed}
use Rattle.rtgs_output.specs.declared.writer_failed.WriterFailed.{WriterFailed}
use Rattle.rtgs_cli.specs.Runs.{Denies, Ends, EndsAfter, EndsFor, PrintsFor, Traces}
use Rattle.rtgs_cli.specs.Writers.{Writers, HasTaken}
use Rattle.rtgs_cli.specs.commands.Commands.{IsNotAnswered, IsSubmitted}
use Rattle.rtgs_cli.specs.declared.files.touched.Touched.TheVariants as traces
use Rattle.rtgs_cli.specs.declared.files.used.Used.TheVariants as used
use Rattle.rtgs_cli.specs.files.Done.{IsDone, IsIdle}
use Rattle.rtgs_cli.specs.files.Printing.{ended_line}
use Rattle.rtgs_cli.specs.files.Touching.{used_of, IsClosed, IsNotOpened, IsUntouched}
use Rattle.rtgs_cli.specs.imports.Imports.{AreReadFrom, IsNotImported, SentOver}
use Rattle.rtgs_cli.specs.readings.Readings as readings
use Rattle.rtgs_cli.specs.serving.Serving.{IsNotServed}
use Rattle.rtgs_promises.specs.Program.{AreFilesOf, AreOfABatch, Beside, BeginsWith, Gives, IsSessionOver}
use Rattle.rtgs_promises.specs.Program.{LeavesSession, TellsReply, TellsResults, WasRefused, WasRun}
use Rattle.rtgs_promises.proofs.Files.{copied_files, found_in, has_schema, left_alone, left_in_files, migrated_tables}

-- what the keeper's trait says of its connection, and the laws of stores and tables
pub record Facts {K D : Type 0} {g : disk.Ghosts D} (k : Ghosts K) (conn : K → Held (FileStore D g)) : Type 0 where
  pub honest : (keeper : K) → HasCleanDisk (file_state (conn keeper)) → k.is_honest keeper
  pub whole : (keeper : K) → k.is_whole keeper → (trees : Trees) → (file_state (conn keeper)).may_leave trees
      → (book : Book) × AreTablesOf book trees × k.leaves keeper book
  pub stays : (store : FileStore D g) → IsTrue (view store).is_open → recovers store (view store).committed
  pub settled : (store : FileStore D g) (trees : Trees) → IsTrue (view store).is_open → recovers store trees
      → trees ≡ (view store).committed
  pub no_book : NoTablesHoldNoBook

module _ {K S : Type 0} (k : Ghosts K) (first : opening.Ghosts S)
    {g : disk.Ghosts (Modelled Host S host_calls.ghosts first)}
    (conn : K → Held (FileStore (Modelled Host S host_calls.ghosts first) g)) (facts : Facts k conn) where
  abbrev file : OverFile K (Unopened S first) (Released S first)
  file = over k (facts_from k first conn)

  -- the files hold this book
  abbrev Begins : Book → Type 0
  Begins book = AreFilesOf book (image_at first)

  -- ---- over a connection

  -- what was done with the book that was opened, whichever the files held, is a session
  over_done : (left : Seen K) (Does : Book → Type 0) (Gave : Book → List Command → List Reply → Type 0)
      → IsDone file left Does
      → ((begun : Book) → Does begun → IsCalm begun → (commands : List Command) × (replies : List Reply)
      × Gave begun commands replies × LeavesSession (conn left.keeper) begun commands replies)
      → IsSessionOver Begins Gave (conn left.keeper)
  over_done left Does Gave done leads clean begun files calm =
      let honest = facts.honest left.keeper clean in
      let was = done.over honest in
      let tables = found_in was.was (image_at first) (AreTablesOf begun) was.found files.0 files.1 files.2 in
      leads begun (done.did honest begun (was.over.held begun tables)) calm

  -- a desk that only read
  over_read : (left : Seen K) (Reads : Book → Type 0) (Gave : Book → List Command → List Reply → Type 0)
      → ((begun : Book) → Gave begun [] []) → IsDone file left (λ book. StillHolds k book left × Reads book)
      → IsSessionOver Begins Gave (conn left.keeper)
  over_read left Reads Gave none done =
      over_done left (λ book. StillHolds k book left × Reads book) Gave done (λ begun did calm. (
        [],
        [],
        none begun,
        left_alone (conn left.keeper) begun calm (λ trees may.
            let it = facts.whole left.keeper did.0.whole_after_a_crash trees may in
            subst (λ book. AreTablesOf book trees) (did.0.after_a_crash it.0 it.2) it.1),
      ))

  -- a desk with which nothing was done
  over_idle : (left : Seen K) (Gave : Book → List Command → List Reply → Type 0)
      → ((begun : Book) → Gave begun [] []) → IsIdle file left → IsSessionOver Begins Gave (conn left.keeper)
  over_idle left Gave none idle clean begun files calm =
      let was = idle.over (facts.honest left.keeper clean) in
      let tables = found_in was.was (image_at first) (AreTablesOf begun) was.found files.0 files.1 files.2 in (
        [],
        [],
        none begun,
        left_alone (conn left.keeper) begun calm
            (λ trees may. subst (AreTablesOf begun) (sym (was.over.leaves trees may)) tables),
      )

  -- ---- files that were refused

  abbrev Left : Type 0
  Left = Cause (AbandonedBook S first)

  unopened_run : (cause : Left)
      → IsOfItsLock cause ⊎ ShowsNoBook k conn (image_at first) (λ closed. closed.files.value) cause
      → WasRefused first g cause
  unopened_run (NotLocked refused) why = tt
  unopened_run (NotVacant taken) why = tt
  unopened_run (NotReadable unread) why = tt
  unopened_run (NotStarted unstarted) why = tt
  unopened_run (NotReached unreached) why = tt
  unopened_run (Abandoned fault closed) (inl never) = absurd never
  unopened_run (Abandoned fault closed) (inr it) = record {
    conn = conn it.left;
    session = λ clean begun files calm.
        let tables = found_in it.was (image_at first) (AreTablesOf begun) (it.found clean) files.0 files.1 files.2 in (
          [],
          [],
          (refl, refl),
          left_alone (conn it.left) begun calm
              (λ trees may. subst (AreTablesOf begun) (sym ((it.refused clean).leaves trees may)) tables),
        );
    left = it.abandoned;
  }

  unmade_run : (cause : Left)
      → IsOfItsLock cause ⊎ BarsBook k conn (image_at first) (λ closed. closed.files.value) cause
      → WasRefused first g cause
  unmade_run (NotLocked refused) why = tt
  unmade_run (NotVacant taken) why = tt
  unmade_run (NotReadable unread) why = tt
  unmade_run (NotStarted unstarted) why = tt
  unmade_run (NotReached unreached) why = tt
  unmade_run (Abandoned fault closed) (inl never) = absurd never
  unmade_run (Abandoned fault closed) (inr it) = record {
    conn = it.left;
    session = λ clean begun files calm.
        let early = it.honest clean in
        let opened = it.opened early in
        let tables = found_in it.was (image_at first) (AreTablesOf begun) (it.found early) files.0 files.1 files.2 in
        let same = (it.taken (has_schema facts.no_book it.was begun opened tables)).1 in (
          [],
          [],
          (refl, refl),
          left_alone it.left begun calm (λ trees may. subst (AreTablesOf begun)
              (sym (facts.settled it.was.store trees opened.0.is_open
              (subst (λ it. (file_state it).may_leave trees) same may))) tables),
        );
    left = it.abandoned;
  }

  unmigrated_run : (cause : Left)
      → IsOfItsLock cause ⊎ BarsMigration g (image_at first) (λ closed. closed.files.value) cause
      → WasRefused first g cause
  unmigrated_run (NotLocked refused) why = tt
  unmigrated_run (NotVacant taken) why = tt
  unmigrated_run (NotReadable unread) why = tt
  unmigrated_run (NotStarted unstarted) why = tt
  unmigrated_run (NotReached unreached) why = tt
  unmigrated_run (Abandoned fault closed) (inl never) = absurd never
  unmigrated_run (Abandoned fault closed) (inr it) = record {
    conn = it.left;
    session = λ clean begun files calm.
        let tables = found_in it.was (image_at first) (AreTablesOf begun) (it.found clean) files.0 files.1 files.2 in (
          [],
          [],
          (refl, refl),
          left_alone it.left begun calm ((it.refused clean).stays begun tables),
        );
    left = it.abandoned;
  }

  -- ---- by request

  module _ {A O E : Type 0} (writers : Writers O E) (touched : Traces A (Unopened S first) (Released S first)) where
    untouched : (ends : Ended) → IsUntouched file touched → WasRun first g writers ends touched
    untouched ends it = subst (WasRun first g writers ends) (sym it.1) tt

    -- a file that was closed
    closed_run : (ends : Ended) (request : JudgedRequest) (beside : Beside) (closed : Released S first)
        (over_it : Held (FileStore (Modelled Host S host_calls.ghosts first) g)) → touched ≡ traces.Book closed beside
        → LeavesClosed over_it closed.files.value
        → IsSessionOver (BeginsWith request (image_at first)) (Gives writers request beside ends) over_it
        → WasRun first g writers ends touched
    closed_run ends request beside closed over_it is leaves session =
        subst (WasRun first g writers ends) (sym is) (
          request,
          record {
            conn = over_it;
            session = session;
            left = leaves;
            copied = copied_files facts.stays over_it closed.files.value leaves;
          },
        )

    -- a file over which no desk was opened
    refused_run : (ends : Ended) (why : Failure) → IsNotOpened file touched why → WasRun first g writers ends touched
    refused_run ends why it = subst (WasRun first g writers ends) (sym it.1) (unopened_run it.0.cause it.2.0)

    -- a command that was given
    submitted_run : (ends : Ended) (path : Bor (List ℕ)) (command : Command) (reply : Reply) (left : Seen K)
        → IsClosed file left used.Nothing touched → IsSubmitted file command reply left → TellsReply writers reply ends
        → WasRun first g writers ends touched
    submitted_run ends path command reply left closed done tells =
        closed_run ends (Submit path command) used.Nothing closed.0 (conn left.keeper) closed.1 closed.2
        (over_done left _ (Gives writers (Submit path command) used.Nothing ends) done (λ begun did calm. (
          command ∷ [],
          reply ∷ [],
          (reply, refl, refl, tells),
          left_in_files (conn left.keeper) begun (command ∷ []) (reply ∷ []) did.1,
        )))

    -- a batch
    batch_of : (ends : Ended) (sender : List ℕ) (beside : Beside) (begun : Book) (rows : List NewOrder)
        (told : List RowReply) (stopped : Option Refusal) (left : Seen K) → AreReadFrom beside rows
        → StopsAfter (length told) (length rows) stopped → SentOver file begun sender rows told stopped left
        → TellsResults writers (results_text rows told stopped) stopped ends
        → (commands : List Command) × (replies : List Reply)
        × AreOfABatch writers sender beside ends commands replies
        × LeavesSession (conn left.keeper) begun commands replies
    batch_of ends sender beside begun rows told stopped left read stops did tells =
        let given = did.0.given in
        let commands = orders_of sender (take (length (with_stop given stopped)) rows) in (
          commands,
          with_stop given stopped,
          record {
            rows = rows;
            read = read;
            told = told;
            stopped = stopped;
            stops = stops;
            given = given;
            shown = did.0.shown;
            orders = refl;
            replied = refl;
            tells = tells;
          },
          left_in_files (conn left.keeper) begun commands (with_stop given stopped) did.1,
        )

    -- ---- runs that printed

    abbrev was_out : Option (List ℕ)
    was_out = writers.out.contents writers.out.before

    abbrev now_out : Option (List ℕ)
    now_out = writers.out.contents writers.out.after

    printed_run : (request : JudgedRequest) (printed : Printed) → PrintsFor file request touched printed was_out now_out
        → WasRun first g writers (ended.Printed printed) touched
    printed_run (Make path) printed it =
        let made = it.2.0 in
        let did = made.2 in
        closed_run (ended.Printed printed) (Make path) used.Nothing made.0 did.now made.1 did.closed
        (λ clean begun begins calm. (
          [],
          [],
          (refl, refl),
          left_alone did.now begun calm
              (λ trees may. subst (λ book. AreTablesOf book trees) (sym begins) (did.leaves clean trees may)),
        ))
    printed_run (Migrate path) printed it =
        let migrated = it.2.1 in
        let did = migrated.2 in
        closed_run (ended.Printed printed) (Migrate path) used.Nothing migrated.0 did.now migrated.1 did.closed
        (λ clean begun begins calm. (
          [],
          [],
          (refl, refl),
          left_alone did.now begun calm (migrated_tables it.2.0 (file_state did.was) (file_state did.now) begun
              (did.did clean) (found_in did.was (image_at first) (AreSomeTablesOf begun) (did.found clean) begins.0
              begins.1 begins.2)),
        ))
    printed_run (Submit path command) printed it =
        let has = it.2 in
        submitted_run (ended.Printed printed) path command (Ok has.0) has.1 has.2 has.3
        (subst (λ text. Prints text None printed was_out now_out) has.5
        (subst (λ stopped. Prints it.0 stopped printed was_out now_out) has.6 it.3))
    printed_run (Import path sender orders) printed it =
        let has = it.2 in
        let sent = has.2 in
        closed_run (ended.Printed printed) (Import path sender orders) (used_of touched) sent.1.0
        (conn sent.0.keeper) sent.1.1 sent.1.2
        (over_done sent.0 _ (Gives writers (Import path sender orders) (used_of touched) (ended.Printed printed)) sent.2
        (λ begun did calm. batch_of (ended.Printed printed) sender (used_of touched) begun has.0 has.1 it.1 sent.0
        sent.3 sent.4 did (subst (λ text. Prints text it.1 printed was_out now_out) has.3 it.3)))
    printed_run (Read path reading) printed (inl it) =
        let has = it.1.2 in
        closed_run (ended.Printed printed) (Read path reading) used.Nothing has.1.0 (conn has.0.keeper) has.1.1 has.1.2
        (over_read has.0 _ (Gives writers (Read path reading) used.Nothing (ended.Printed printed))
        (λ begun. (refl, refl)) has.2)
    printed_run (Read path reading) printed (inr it) =
        let has = it.5 in
        closed_run (ended.Printed printed) (Read path reading) used.Nothing has.closed.0 (conn has.left.keeper)
        has.closed.1 has.closed.2
        (over_read has.left _ (Gives writers (Read path reading) used.Nothing (ended.Printed printed))
        (λ begun. (refl, refl)) has.stated)
    printed_run (Serve path port count operator) printed it =
        let has = it.0.2 in
        closed_run (ended.Printed printed) (Serve path port count operator) (used_of touched) has.1.0
        (conn has.0.keeper) has.1.1 has.1.2
        (over_done has.0 _ (Gives writers (Serve path port count operator) (used_of touched) (ended.Printed printed))
        has.2 (λ begun did calm.
        (did.0, did.1, did.2, left_in_files (conn has.0.keeper) begun did.0 did.1 did.4)))

    -- ---- runs that were refused

    module _ (why : Failure) (sent : Result ⊤ WriterFailed)
        (taken : HasTaken sent writers.err (ended_line (refusal_line why))) where
      abbrev ends : Ended
      ends = ended.Refused why sent

      not_answered : (path : Bor (List ℕ)) (command : Command) → IsNotAnswered file command touched why
          → WasRun first g writers ends touched
      not_answered path command (inl unopened) = refused_run ends why unopened
      not_answered path command (inr it) =
          submitted_run ends path command (Err it.0) it.1 it.2 it.3 (it.4, taken)

      not_imported : (path orders : Bor (List ℕ)) (sender : List ℕ) → IsNotImported file sender touched why
          → WasRun first g writers ends touched
      not_imported path orders sender (inl unopened) = refused_run ends why unopened
      not_imported path orders sender (inr (inl it)) =
          closed_run ends (Import path sender orders) (used_of touched) it.2.0 (conn it.1.keeper) it.2.1 it.2.2
          (over_idle it.1 (Gives writers (Import path sender orders) (used_of touched) ends)
          (λ begun. inr (refl, refl)) it.3)
      not_imported path orders sender (inr (inr it)) =
          let done = it.4 in
          closed_run ends (Import path sender orders) (used_of touched) done.1.0 (conn done.0.keeper) done.1.1 done.1.2
          (over_done done.0 _ (Gives writers (Import path sender orders) (used_of touched) ends) done.2
          (λ begun did calm. let batch = batch_of ends sender (used_of touched) begun it.1 it.2 it.3 done.0
          done.3 done.4 did it.0 in (batch.0, batch.1, inl batch.2, batch.3)))

      not_served : (path : Bor (List ℕ)) (port count : ℕ) (operator : List ℕ) → IsNotServed file touched why
          → WasRun first g writers ends touched
      not_served path port count operator (inl unopened) = refused_run ends why unopened
      not_served path port count operator (inr it) =
          closed_run ends (Serve path port count operator) (used_of touched) it.2.0 (conn it.1.keeper) it.2.1 it.2.2
          (over_idle it.1 (Gives writers (Serve path port count operator) (used_of touched) ends)
          (λ begun. (refl, refl)) it.3)

      not_read : (path : Bor (List ℕ)) (reading : Reading) → readings.IsNotRead file reading touched why
          → WasRun first g writers ends touched
      not_read path reading (inl unopened) = refused_run ends why unopened
      not_read path reading (inr it) =
          closed_run ends (Read path reading) used.Nothing it.2.0 (conn it.1.keeper) it.2.1 it.2.2
          (over_read it.1 _ (Gives writers (Read path reading) used.Nothing ends) (λ begun. (refl, refl)) it.3)

      denied_run : (request : JudgedRequest) → Denies file request writers.out touched why
          → WasRun first g writers ends touched
      denied_run (Make path) it = subst (WasRun first g writers ends) (sym it.0.1) (unmade_run it.0.0.cause it.0.2.0)
      denied_run (Migrate path) it =
          subst (WasRun first g writers ends) (sym it.0.1) (unmigrated_run it.0.0.cause it.0.2.0)
      denied_run (Submit path command) it = not_answered path command it.0
      denied_run (Import path sender orders) it = not_imported path orders sender it.0
      denied_run (Read path reading) (inl it) = elim it.0 [
        | inl unopened ↦ refused_run ends why unopened
        | inr gathered ↦ not_read path reading gathered.1
      ]
      denied_run (Read path reading) (inr it) =
          let has = it.0.5 in
          closed_run ends (Read path reading) used.Nothing has.closed.0 (conn has.left.keeper) has.closed.1 has.closed.2
          (over_read has.left _ (Gives writers (Read path reading) used.Nothing ends) (λ begun. (refl, refl))
          has.stated)
      denied_run (Serve path port count operator) it = not_served path port count operator it.0

    for_words : (words : Words) (ends : Ended) → EndsFor file words writers ends touched
        → WasRun first g writers ends touched
    for_words words (ended.Printed printed) it = printed_run it.0.0 printed it.0.2
    for_words words (ended.Refused why sent) it = elim it.1 [
      | inl form ↦ untouched (ended.Refused why sent) form.3
      | inr denied ↦ denied_run why sent it.0 denied.0 denied.2
    ]
    for_words words (ended.Helped sent) it = absurd it
    for_words words (ended.Misused sent) it = absurd it

    ends_after : (read : Result (Option Invocation) Error) (ends : Ended) → EndsAfter file read writers ends touched
        → WasRun first g writers ends touched
    ends_after (Ok (Some (Run words))) ends it = for_words words ends it
    ends_after (Ok (Some (Refusals which))) ends it = untouched ends it.2
    ends_after (Ok None) ends it = untouched ends it.3
    ends_after (Err error) ends it = untouched ends it.1

    pub run_is_session : (ends : Ended) → Ends file writers ends touched → WasRun first g writers ends touched
    run_is_session ends it = ends_after it.0 ends it.1
