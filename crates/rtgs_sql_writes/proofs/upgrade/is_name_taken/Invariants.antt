use Rattle.std.proofs.Common.{◌≡◌, ◌≤◌, ◌<◌, ℕ, false, get_or}
use Rattle.sqlite_catalog.specs.Change.{is_used}
use Rattle.rtgs_rows.specs.Tables.{known_tables, desk_table, table_count}
use Rattle.rtgs_sql_writes.proofs.upgrade.is_name_taken.Given as goal

abbrev pub invariant-loop-at : goal.invariant-loop-at
invariant-loop-at g l = (at : ℕ) → table_count l.version ≤ at → at < l.at
    → is_used l.schema (get_or known_tables at desk_table).name ≡ false
