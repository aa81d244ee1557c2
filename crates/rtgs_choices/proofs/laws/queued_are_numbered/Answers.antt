use Rattle.rtgs_choices.proofs.Taken.{queued_by_number, queued_count}
use Rattle.rtgs_choices.proofs.laws.queued_are_numbered.Goals as goal

pub returns : goal.returns
returns c = record { numbers = queued_by_number; count = queued_count }
