use Rattle.rtgs_rows.proofs.Blank.{one_schema}
use Rattle.rtgs_rows.specs.Tables.{schema_in}
use Rattle.rtgs_rows.proofs.laws.tables_of_a_desk_are_read_as_such.Goals as goal

pub returns : goal.returns
returns c version schema trees desk some = one_schema schema (schema_in version) trees some desk
