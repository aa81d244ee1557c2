-- What was opened, made and migrated over what files held. `k` has the members of the keeper's trait, and `conn` gives
-- a keeper's connection.
use Rattle.std.specs.Prelude.{Bool}
use Rattle.sqlite_disk.specs.declared.Disk as disk
use Rattle.sqlite.specs.Files.{file_state, IsOpened}
use Rattle.sqlite.specs.Held.{Held}
use Rattle.sqlite.specs.Recovery.{Image}
use Rattle.sqlite.specs.Start.{FindsIn}
use Rattle.sqlite.specs.State.{HasCleanDisk}
use Rattle.sqlite.specs.Tree.{Trees}
use Rattle.sqlite.specs.declared.FileStore.{FileStore}
use Rattle.rtgs_book.specs.Books.{new_book}
use Rattle.rtgs_keeper.specs.declared.keeper.Keeper.{Ghosts}
use Rattle.rtgs_desk.specs.Seen.{Seen}
use Rattle.rtgs_book_file.specs.stored_desk.Migrated.{WasMigration}
use Rattle.rtgs_book_file.specs.stored_desk.Stored.{AreTablesOf, HasNoSchema, IsOver}
use Rattle.rtgs_book_file.specs.Closed.{LeavesClosed}
use Rattle.rtgs_book_file.specs.declared.closed_files.ClosedFiles.{ClosedFiles}

-- the desk, whose connection is as it is now, was opened over what the files held
pub record WasOpened {K D : Type 0} {g : disk.Ghosts D} (k : Ghosts K) (held : Image) (desk : Seen K)
    (now : Held (FileStore D g)) : Type 0 where
  -- the connection, when it had been opened
  pub was : Held (FileStore D g)
  pub opened : IsOpened was
  -- it found what the files held
  pub found : FindsIn held (file_state was)
  -- so the desk holds the book of those tables, and a stop leaves them
  pub over : IsOver k (file_state was) desk (file_state now)

-- the tables of a new book were made over what the files held, and these are left of them
pub record WasMade {K D : Type 0} {g : disk.Ghosts D} (k : Ghosts K) (conn : K → Held (FileStore D g)) (held : Image)
    (files : ClosedFiles D) : Type 0 where
  -- the connection, when it had been opened, and before it was closed
  pub was : Held (FileStore D g)
  pub now : Held (FileStore D g)
  pub opened : HasCleanDisk (file_state was) → IsOpened was
  pub found : HasCleanDisk (file_state was) → FindsIn held (file_state was)
  -- nothing was in the database
  pub blank : HasNoSchema (file_state was)
  -- and a stop leaves the tables of the new book
  pub honest : HasCleanDisk (file_state now) → HasCleanDisk (file_state was)
  pub leaves : HasCleanDisk (file_state now) → (trees : Trees) → (file_state now).may_leave trees
      → AreTablesOf new_book trees
  -- and then it was closed
  pub closed : LeavesClosed now files

-- the tables that the files held were brought to the newest version, or were of it already, and these are left of them
pub record WasMigrated {D : Type 0} (g : disk.Ghosts D) (held : Image) (wrote : Bool) (files : ClosedFiles D) : Type 0
  where
    -- the connection, when it had been opened, and before it was closed
    pub was : Held (FileStore D g)
    pub now : Held (FileStore D g)
    pub opened : HasCleanDisk (file_state now) → IsOpened was
    pub found : HasCleanDisk (file_state now) → FindsIn held (file_state was)
    -- what was done with the tables that it found, and what a stop leaves of them
    pub did : HasCleanDisk (file_state now) → WasMigration wrote (file_state was) (file_state now)
    -- and then it was closed
    pub closed : LeavesClosed now files
