-- What was made in files is said of what they held, where the call that made it succeeds.
use Rattle.std.proofs.Common.{◌≡◌, Some, Result, Ok, Err, IfErr, OnOk, inl, inr, subst}
use Rattle.sqlite_disk.specs.declared.Disk.{Ghosts}
use Rattle.sqlite_disk.specs.declared.Files.{Files}
use Rattle.sqlite.specs.Files.{image_of}
use Rattle.sqlite.specs.Recovery.{Image}
use Rattle.sqlite_store.specs.declared.error.OpenError.{OpenError}
use Rattle.sqlite_store.specs.declared.error.OpenError.TheVariants.{Refused}
use Rattle.sqlite_store.specs.declared.store.FileStore.{FileStore}
use Rattle.rtgs_book_file.specs.Starting.{fault_of_making, IsMadeIn, IsCopied, HoldMore, IsStarted, IsNotStarted}
use Rattle.rtgs_book_file.specs.declared.not_started.NotStarted.{NotStarted}

-- what is so is so where a call succeeds
pub on_ok : {A E P : Type 0} (result : Result A E) → P → OnOk result P
on_ok (Ok value) so = so
on_ok (Err error) so = tt

-- an error of making a database is why none was started
pub not_made : {A : Type 0} (error : OpenError) (result : Result A NotStarted)
    → IfErr result (λ it. fault_of_making error ≡ Some it.fault) → IfErr result (λ it. IsNotStarted it.fault)
not_made error (Ok value) is = tt
not_made error (Err it) is = inr (inl (error, is))

module _ {D A E : Type 0} (g : Ghosts D) where
  -- a database that was made and copied
  pub copied : (held : Image) (store : FileStore D g) (result : Result A E) → IsMadeIn held store
      → OnOk result (IsCopied store) → OnOk result (IsStarted g held)
  copied held store (Ok value) made now = inl (store, made, now)
  copied held store (Err error) made now = tt

  -- or one that was there
  pub found : (held : Image) (error : OpenError) (result : Result A E) → (error ≡ Refused → HoldMore g held)
      → OnOk result (error ≡ Refused) → OnOk result (IsStarted g held)
  found held error (Ok value) more is = inr (more is)
  found held error (Err other) more is = tt

  -- what was made in files was made in what they held
  pub started_of : (files : Files D) (held : Image) (result : Result A E) → image_of g files ≡ held
      → OnOk result (IsStarted g (image_of g files)) → OnOk result (IsStarted g held)
  started_of files held result same = subst (λ held. OnOk result (IsStarted g held)) same
