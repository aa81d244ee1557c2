use Rattle.rtgs_laws.proofs.Quiet.{quiet_calm}
use Rattle.rtgs_laws.proofs.laws.quiet_changes_leave_calm.Goals as goal

pub returns : goal.returns
returns c = quiet_calm c.chosen_are_beginnings.ensures c.greatest_exists.ensures
