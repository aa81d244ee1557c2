use Rattle.rtgs_rows.proofs.Changed.{in_order}
use Rattle.rtgs_rows.proofs.laws.changes_stand_in_order.Goals as goal

pub returns : goal.returns
returns c old new rows content of change = in_order old new rows content of change
