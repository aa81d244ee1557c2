use Rattle.rtgs_rows.proofs.Blank.{one_schema}
use Rattle.rtgs_rows.specs.Tables.{no_schema}
use Rattle.rtgs_rows.proofs.laws.no_tables_are_read_as_none.Goals as goal

pub returns : goal.returns
returns c schema trees none some = one_schema schema no_schema trees some none
