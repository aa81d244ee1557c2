-- What the laws of queries say. `laws` proves each.
use Rattle.std.specs.Prelude.{◌≡◌, List, map}
use Rattle.sqlite.specs.Order.{Row}
use Rattle.rtgs_rows.specs.TableRecords.{TableRecords}
use Rattle.rtgs_sql_columns.specs.Numbers.{AreReadAs}

-- the rows of records are read as they are
abbrev pub RecordsAreRead : {A : Type 0} → TableRecords A → Type 0
RecordsAreRead {A = A} records = (rows : List Row) (all : List A) → rows ≡ map records.shown all
    → AreReadAs records rows all
