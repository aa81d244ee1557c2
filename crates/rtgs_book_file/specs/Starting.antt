-- What the store's answers say, as it makes a database in the file of a new book. `held` is what the files held.
use Rattle.std.specs.Prelude.{◌≡◌, ◌⊎◌, Option, Some, None, IsTrue}
use Rattle.std.specs.IoError.{error_kind}
use Rattle.std.specs.declared.io.ErrorKind.{ErrorKind}
use Rattle.std.specs.declared.io.ErrorKind.TheVariants as kind
use Rattle.sqlite_disk.specs.declared.Disk.{Ghosts}
use Rattle.sqlite.specs.Recovery.{Image}
use Rattle.sqlite_std_file.specs.declared.pair.OpenError.{OpenError as PathError}
use Rattle.sqlite_std_file.specs.declared.pair.OpenError.TheVariants as path
use Rattle.sqlite_store.specs.FileStore.{state, view, log_frames, HasSpilled, IsReady}
use Rattle.sqlite_store.specs.Unopened.{state_of, image, CanCreate, Creates, IsUnstarted}
use Rattle.sqlite_store.specs.declared.error.OpenError.{OpenError}
use Rattle.sqlite_store.specs.declared.error.OpenError.TheVariants as made
use Rattle.sqlite_store.specs.declared.store.FileStore.{FileStore}
use Rattle.sqlite_store.specs.declared.store.open.Unopened.{Unopened}
use Rattle.sqlite_trees.specs.View.{IsClean}
use Rattle.sqlite_trees.specs.declared.error.StoreError.{StoreError}
use Rattle.sqlite_trees.specs.declared.error.StoreError.TheVariants as copied
use Rattle.rtgs_book.specs.declared.fault.Fault.{Fault}
use Rattle.rtgs_book.specs.declared.fault.Fault.TheVariants.{OutOfMemory, StoreFault}

-- why the system refuses a call: lack of memory, or a fault
abbrev pub fault_of_system : ErrorKind → Fault
fault_of_system kind.OutOfMemory = OutOfMemory
fault_of_system _ = StoreFault

-- why the files were not opened: memory ran out, the system failed, or something else has one of them
abbrev pub fault_of_path : PathError → Fault
fault_of_path path.OutOfMemory = OutOfMemory
fault_of_path (path.Io error) = fault_of_system (error_kind error)
fault_of_path _ = StoreFault

-- Why no database was made in them. If they hold one, that is no fault: the opening that follows judges it.
abbrev pub fault_of_making : OpenError → Option Fault
fault_of_making made.OutOfMemory = Some OutOfMemory
fault_of_making made.Refused = None
fault_of_making _ = Some StoreFault

-- why its log was not copied into the file
abbrev pub fault_of_copying : StoreError → Fault
fault_of_copying copied.OutOfMemory = OutOfMemory
fault_of_copying _ = StoreFault

-- the files were not opened, no database was made in them, or its log was not copied
abbrev pub IsNotStarted : Fault → Type 0
IsNotStarted fault = ((error : PathError) × (fault ≡ fault_of_path error))
    ⊎ (((error : OpenError) × (fault_of_making error ≡ Some fault))
    ⊎ ((error : StoreError) × (fault ≡ fault_of_copying error)))

module _ {D : Type 0} {g : Ghosts D} where
  -- The store over files that held this made a database without a row in them. There was none, or an empty one.
  pub record IsMadeIn (held : Image) (store : FileStore D g) : Type 0 where
    pub files : Unopened D g
    pub held_it : image files ≡ held
    pub ready : IsReady store
    pub started : IsTrue (state store).is_clean → ∥ IsUnstarted files ∥₁
    pub creates : IsTrue (state store).is_clean → Creates files (state store)

  -- the store copied its log into the file, and has the same database
  pub record IsCopied (store : FileStore D g) : Type 0 where
    pub now : FileStore D g
    pub works : IsClean (view now) → IsTrue (view now).is_open
    pub same : IsTrue (view now).is_open → view now ≡ view store
    pub moved : ¬ HasSpilled store → log_frames now ≡ 0

-- files that held this hold more than an empty database, and none was made
pub record HoldMore {D : Type 0} (g : Ghosts D) (held : Image) : Type 0 where
  pub files : Unopened D g
  pub left : Unopened D g
  pub held_it : image files ≡ held
  pub refused : IsTrue (state_of left).is_clean → ¬ CanCreate files

-- no call failed: a database was made and copied, or none where one is
abbrev pub IsStarted : {D : Type 0} → Ghosts D → Image → Type 0
IsStarted {D} g held = ((store : FileStore D g) × IsMadeIn held store × IsCopied store) ⊎ HoldMore g held
