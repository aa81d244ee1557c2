use Rattle.std.proofs.Common.{◌≡◌, ◌⊎◌, ℕ, Bool, true, false, cond, List, Option, None, Some, IfSome, refl, ap₂, inl}
use Rattle.std.proofs.Common.{inr}
use Rattle.sqlite_disk.specs.declared.Disk as disk
use Rattle.sqlite_disk.specs.declared.Files.{Files}
use Rattle.sqlite_disk.specs.Events.{Event, replay}
use Rattle.sqlite_std_file.specs.File.{IsFresh}
use Rattle.sqlite.specs.Files.{image_of, IsCleanLeft, FailsToOpenFiles, LeavesFiles}
use Rattle.sqlite.specs.Recovery.{Image}
use Rattle.sqlite.specs.declared.Leftover.{Leftover}
use Rattle.sqlite.specs.declared.error.Error.{Error as SqlError}
use Rattle.rtgs_book_file.specs.Refused.{IsOutOfReach, FailsOver}
use Rattle.rtgs_book_file.proofs.unopened_store.open_store.Goals as goal

abbrev image : List ℕ → List ℕ → Image
image log db = record { log = log; db = db }

abbrev seen : List ℕ → List ℕ → Bool → List Event → List ℕ
seen log db is_log history = (replay (cond is_log log db) history).seen

-- no file was opened, or it is known what the files held
reached : {D : Type 0} (g : disk.Ghosts D) (held : Image) (error : SqlError) (IsLog IsDb : Files D → Type 0)
    → ((files : Files D) → IsLog files → IsDb files → image_of g files ≡ held) → (left : Option (Leftover D g))
    → (left ≡ None → IsOutOfReach error)
    → IfSome left (λ rest. (files : Files D) × IsLog files × IsDb files
    × (IsCleanLeft rest → FailsToOpenFiles files rest error × LeavesFiles files rest))
    → IsOutOfReach error ⊎ FailsOver g held error
reached g held error IsLog IsDb same None unreached cause = inl (unreached refl)
reached g held error IsLog IsDb same (Some rest) unreached cause = inr (record {
  files = cause.0;
  left = rest;
  held_it = same cause.0 cause.1 cause.2;
  cause = λ clean. (cause.3 clean).0;
  leaves = λ clean. (cause.3 clean).1;
})

pub returns-in-Err-clause-refused : goal.returns-in-Err-clause-refused
returns-in-Err-clause-refused g c =
    let alike = seen g.S.Start.log g.S.Start.db in
    record {
      error = c.in-Err.error;
      reported = refl;
      named = c.in-Err.ensures.named;
      why = reached _ _ c.in-Err.error (λ files. IsFresh true files.log) (λ files. IsFresh false files.db)
          (λ files log db. ap₂ image (ap₂ alike log.0 log.1) (ap₂ alike db.0 db.1)) c.in-Err.left
          c.in-Err.ensures.unopened c.in-Err.ensures.cause;
    }
