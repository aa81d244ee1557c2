-- What a count of the objects that files list says of the files.
use Rattle.std.specs.Prelude.{◌≡◌, Bool, true, length, IsTrue}
use Rattle.sqlite_disk.specs.declared.Disk.{Ghosts}
use Rattle.sqlite.specs.Recovery.{Image}
use Rattle.sqlite_store.specs.Opening.{FailsToOpen}
use Rattle.sqlite_store.specs.Unopened.{state_of, image, IsCatalogOf, IsFullFile, HasSomeFile}
use Rattle.sqlite_store.specs.declared.error.OpenError.TheVariants.{Refused}
use Rattle.sqlite_store.specs.declared.store.open.Unopened.{Unopened}
use Rattle.rtgs_book_file.specs.declared.object_count.ObjectCount.{ObjectCount}
use Rattle.rtgs_book_file.specs.declared.object_count.ObjectCount.TheVariants.{Objects, WithoutSums, Unknown}

module _ {D : Type 0} {g : Ghosts D} where
  -- They list this many; or their pages are to end in sums, and they are no database that does. Where neither is known,
  -- memory may have run out, so nothing is said.
  abbrev pub Counts : Unopened D g → Unopened D g → Bool → ObjectCount → Type 0
  Counts old new has_sums (Objects count) = (rows : _) × IsCatalogOf old new rows × (count ≡ length rows)
  Counts old new has_sums WithoutSums = (has_sums ≡ true)
      × FailsToOpen (state_of old).faults (state_of new).faults (IsFullFile new) (HasSomeFile old) Refused
  Counts old new has_sums Unknown = Unit {0}

-- It is what a store reads in files that hold this, where the disk gives back what was written to it.
pub record IsListingOf {D : Type 0} (g : Ghosts D) (held : Image) (listed : ObjectCount) : Type 0 where
  -- the files before they were read, and after
  pub old : Unopened D g
  pub new : Unopened D g
  pub has_sums : Bool
  pub held_it : image old ≡ held
  pub counts : IsTrue (state_of new).is_clean → Counts old new has_sums listed

-- the same, where anything is known
abbrev pub IsReadIn : {D : Type 0} → Ghosts D → Image → ObjectCount → Type 0
IsReadIn g held Unknown = Unit {0}
IsReadIn g held (Objects count) = IsListingOf g held (Objects count)
IsReadIn g held WithoutSums = IsListingOf g held WithoutSums
