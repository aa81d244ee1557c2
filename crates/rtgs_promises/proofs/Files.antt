-- What the files of a book hold, and what a crash leaves of them.
use Rattle.std.proofs.Common.{◌≡◌, Bool, true, false, List, [], None, IsTrue, refl, sym, subst, arith}
use Rattle.std.proofs.Common.{inl, inr}
use Rattle.std.proofs.Math.Logic.{∥∥₁_elim}
use Rattle.sqlite_catalog.specs.Listing.{IsSound as IsReadBy}
use Rattle.sqlite_disk.specs.declared.Disk as disk
use Rattle.sqlite_trees.specs.Props.{Trees-set}
use Rattle.sqlite.specs.Files.{file_state, HoldsDatabase, IsOpened}
use Rattle.sqlite.specs.FileStore.{view, recovers}
use Rattle.sqlite.specs.Held.{Held}
use Rattle.sqlite.specs.Recovery.{Image}
use Rattle.sqlite.specs.Start.{FindsIn}
use Rattle.sqlite.specs.State.{State, HasCleanDisk}
use Rattle.sqlite.specs.Tree.{Trees}
use Rattle.sqlite.specs.WalFiles.{outcomes}
use Rattle.sqlite.specs.WalReads.{AreClean}
use Rattle.sqlite.specs.declared.FileStore.{FileStore}
use Rattle.rtgs_book.specs.declared.book.Book.{Book}
use Rattle.rtgs_book.specs.declared.command.Command.{Command}
use Rattle.rtgs_book.specs.Calm.{IsCalm}
use Rattle.rtgs_book.specs.Outcome.{Reply}
use Rattle.rtgs_book.specs.Session.{IsSession}
use Rattle.rtgs_rows.specs.RowLaws.{NoTablesHoldNoBook}
use Rattle.rtgs_rows.specs.Tables.{no_schema}
use Rattle.rtgs_book_file.specs.Closed.{LeavesClosed}
use Rattle.rtgs_book_file.specs.stored_desk.Migrated.{AreSomeTablesOf, WasMigration}
use Rattle.rtgs_book_file.specs.stored_desk.Stored.{AreTablesOf, HasNoSchema, StopLeaves}
use Rattle.rtgs_book_file.specs.declared.closed_files.ClosedFiles.{ClosedFiles}
use Rattle.rtgs_promises.specs.Program.{LeavesSession, MayLeaveFiles}

-- a session without commands leaves the book as it was
pub no_session : (start : Book) → IsSession (record { start = start; commands = []; replies = []; found = start })
no_session start = record { replied = omega arith; running = omega arith; last = start; run = refl; found = refl }

-- what a migration left are tables of the newest version, whichever they were before
pub migrated_tables : (wrote : Bool) (old new : State) (start : Book) → WasMigration wrote old new
    → AreSomeTablesOf start old.committed.trees → (trees : Trees) → new.may_leave trees → AreTablesOf start trees
migrated_tables true old new start did (inl older) = did.held start older
migrated_tables true old new start did (inr newest) = absurd (did.not_newest start newest)
migrated_tables false old new start did (inl older) = absurd (did.not_older start older)
migrated_tables false old new start did (inr newest) =
    λ trees may. subst (AreTablesOf start) (sym (did.leaves trees may)) newest

module _ {D : Type 0} {g : disk.Ghosts D} where
  -- what is so of the tables in the files is so of those that an opening finds there
  pub found_in : (conn : Held (FileStore D g)) (held : Image) (IsSo : Trees → Type 0) → FindsIn held (file_state conn)
      → (trees : Trees) → ∥ HoldsDatabase held trees ∥₁ → IsSo trees → IsSo (file_state conn).committed.trees
  found_in conn held IsSo finds trees holds it =
      subst IsSo (sym (∥∥₁_elim holds (Trees-set _ _) (finds.holds trees))) it

  -- what a session leaves in tables it leaves in files
  pub left_in_files : (conn : Held (FileStore D g)) (start : Book) (commands : List Command) (replies : List Reply)
      → StopLeaves start commands replies (file_state conn) → LeavesSession conn start commands replies
  left_in_files conn start commands replies leaves files may =
      let it = leaves may.0 may.2 in
      (it.found, (may.0, may.1, (it.content, it.holds, it.records)), it.calm, it.session)

  -- where the tables are those of the book still, a session without commands leaves it
  pub left_alone : (conn : Held (FileStore D g)) (start : Book) → IsCalm start
      → ((trees : Trees) → (file_state conn).may_leave trees → AreTablesOf start trees)
      → LeavesSession conn start [] []
  left_alone conn start calm tables files may =
      (start, (may.0, may.1, tables may.0 may.2), calm, no_session start)

  -- whatever a crash leaves of a file into which the log was copied holds what was committed
  pub copied_files : ((store : FileStore D g) → IsTrue (view store).is_open → recovers store (view store).committed)
      → (conn : Held (FileStore D g)) (closed : ClosedFiles D) → LeavesClosed conn closed → closed.uncopied ≡ None
      → AreClean g closed.files.log closed.files.db → HasCleanDisk (file_state conn)
      × ((files : Image) → outcomes g closed.files.log closed.files.db files → MayLeaveFiles conn files)
  copied_files stays conn closed leaves none clean =
      let it = leaves.copied none clean in (
        it.was_clean,
        λ files may. ((file_state conn).committed.trees, (it.left files may).both, stays conn.store it.was_open),
      )

  -- tables of a book are no empty database
  pub has_schema : NoTablesHoldNoBook → (conn : Held (FileStore D g)) (start : Book) → IsOpened conn
      → AreTablesOf start (file_state conn).committed.trees → ¬ HasNoSchema (file_state conn)
  has_schema law conn start opened tables none =
      let it = (opened.1 opened.0.is_open).1 in
      let same = subst (λ db. db.schema ≡ no_schema) opened.0.clean none in
      law (file_state conn).committed.trees tables.0
      (subst (λ schema. IsReadBy schema (file_state conn).committed.trees) same it) tables.1
