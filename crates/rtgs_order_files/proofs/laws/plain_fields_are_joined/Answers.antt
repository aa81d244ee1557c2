use Rattle.rtgs_order_files.proofs.Plain.{plain_line}
use Rattle.rtgs_order_files.proofs.laws.plain_fields_are_joined.Goals as goal

pub returns : goal.returns
returns c = plain_line
