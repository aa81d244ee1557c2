-- A database in which nothing is yet.
use Rattle.std.specs.Prelude.{◌≡◌, IsTrue}
use Rattle.sqlite.specs.State.{State}
use Rattle.rtgs_rows.specs.Tables.{no_schema}

-- nothing is in the database yet
pub record IsBlank (s : State) : Type 0 where
  pub is_open : IsTrue s.is_open
  pub schema : s.committed.schema ≡ no_schema
  pub clean : s.now ≡ s.committed
