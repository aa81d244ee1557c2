use Rattle.rtgs_sql_queries.proofs.AsRead.{rows_same}
use Rattle.rtgs_sql_queries.proofs.laws.records_are_read.Goals as goal

pub returns : goal.returns
returns g c = rows_same g.T.TableRow.records.counted g.T.TableRow.records.shown c.query.ensures.own
