use Rattle.std.proofs.Common.{take}
use Rattle.std.specs.List.{AllByRecursion}
use Rattle.rtgs_sql_columns.specs.Numbers.{IsFormed}
use Rattle.rtgs_sql_queries.proofs.table_row.without_room.Given as goal

abbrev pub invariant-loop-row : goal.invariant-loop-row
invariant-loop-row g l = AllByRecursion (IsFormed g.T.TableRow.records)
    (take l.row-index l.rows)
