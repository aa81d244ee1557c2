use Rattle.rtgs_sql_columns.proofs.Queries.{sorts, moved}
use Rattle.rtgs_sql_columns.proofs.laws.one_table_answers.Goals as goal

pub returns : goal.returns
returns c = record { sorted = sorts; shown = moved }
