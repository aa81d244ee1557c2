use Rattle.std.proofs.Common.{vec_capacity}
use Rattle.rtgs_sql_columns.specs.Numbers.{as_read}
use Rattle.rtgs_sql_queries.proofs.Decoding.{SoFar}
use Rattle.rtgs_sql_queries.proofs.table_row.decode.Given as goal

abbrev pub invariant-loop-row : goal.invariant-loop-row
invariant-loop-row g l =
    let t = g.T.TableRow.records in
    SoFar t.fits (as_read t.counted) t.shown l.rows l.row-index (vec_capacity l.records) l.records.items
