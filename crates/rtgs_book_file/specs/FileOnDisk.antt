-- The file of a book on a disk.
use Rattle.std.specs.Prelude.{◌≡◌, ◌⊎◌, string_bytes}
use Rattle.sqlite_disk.specs.declared.Disk as disk
use Rattle.sqlite_disk.specs.declared.Start as start
use Rattle.sqlite_disk.specs.declared.modelled.Modelled.{Modelled}
use Rattle.sqlite_std_file.specs.declared.host.Host.{Host}
use Rattle.sqlite_std_file.specs.contracts.host.HostCalls.TheImpl as host_calls
use Rattle.sqlite.specs.Files.{file_state}
use Rattle.sqlite.specs.Held.{Held}
use Rattle.sqlite.specs.WalFiles.{image_at}
use Rattle.sqlite.specs.declared.FileStore.{FileStore}
use Rattle.rtgs_keeper.specs.declared.keeper.Keeper.{Ghosts}
use Rattle.rtgs_book_file.specs.stored_desk.Stored.{StopLeaves}
use Rattle.rtgs_book_file.specs.Causes.{fault_of_cause, IsOfItsLock, ShowsNoBook, BarsBook}
use Rattle.rtgs_book_file.specs.Causes.{BarsMigration}
use Rattle.rtgs_book_file.specs.Closed.{LeavesClosed}
use Rattle.rtgs_book_file.specs.LockName.{lock_name, IsOfLock}
use Rattle.rtgs_book_file.specs.Opened.{WasOpened, WasMade, WasMigrated}
use Rattle.rtgs_book_file.specs.OverFile.{FileFacts}
use Rattle.rtgs_book_file.specs.declared.released.Released.{Released}
use Rattle.rtgs_book_file.specs.declared.unopened.Unopened.{Unopened}

-- What is so of a file that held what the second says. The first has the members of the keeper's trait, and the last
-- gives a keeper's connection.
abbrev pub facts_from : {K S : Type 0} → Ghosts K → (first : start.Ghosts S)
    → {g : disk.Ghosts (Modelled Host S host_calls.ghosts first)}
    → (K → Held (FileStore (Modelled Host S host_calls.ghosts first) g))
    → FileFacts K (Unopened S first) (Released S first)
facts_from k first {g} conn = record {
  was_opened = λ desk. WasOpened k (image_at first) desk (conn desk.keeper);
  was_closed = λ keeper closed. LeavesClosed (conn keeper) closed.files.value;
  was_unopened = λ unopened. (IsOfItsLock unopened.cause
      ⊎ ShowsNoBook k conn (image_at first) (λ closed. closed.files.value) unopened.cause)
      × (unopened.fault ≡ fault_of_cause unopened.cause);
  was_made = λ made. WasMade k conn (image_at first) made.files.value;
  was_unmade = λ unmade. (IsOfItsLock unmade.cause
      ⊎ BarsBook k conn (image_at first) (λ closed. closed.files.value) unmade.cause)
      × (unmade.fault ≡ fault_of_cause unmade.cause);
  was_migrated = λ wrote migrated. WasMigrated g (image_at first) wrote migrated.files.value;
  was_unmigrated = λ unmigrated. (IsOfItsLock unmigrated.cause
      ⊎ BarsMigration g (image_at first) (λ closed. closed.files.value) unmigrated.cause)
      × (unmigrated.fault ≡ fault_of_cause unmigrated.cause);
  fault_of = λ unopened. unopened.fault;
  refused_at = λ path unopened. IsOfLock (λ name. string_bytes name.value) path unopened.name unopened.fault;
  closed_at = λ path closed. string_bytes closed.name.value ≡ lock_name path;
  stop_leaves = λ desk book commands replies. StopLeaves book commands replies (file_state (conn desk.keeper));
}
