-- Where a change stopped, and what that leaves.
use Rattle.std.specs.Prelude.{◌≡◌, IsTrue}
use Rattle.sqlite.specs.State.{State}
use Rattle.rtgs_sql_writes.specs.declared.staging.Stopped.{Stopped}
use Rattle.rtgs_sql_writes.specs.declared.staging.Stopped.TheVariants.{Before, AtCommit}

abbrev pub IsBefore : Stopped → Type 0
IsBefore (Before e) = Unit {0}
IsBefore (AtCommit e) = ⊥

-- while the connection is open, it shows what was committed before, and nothing was committed since
pub record IsUndone (old new : State) : Type 0 where
  pub was_open : IsTrue new.is_open → IsTrue old.is_open
  pub now_is : IsTrue new.is_open → new.now ≡ old.committed
  pub committed_is : IsTrue new.is_open → new.committed ≡ old.committed
