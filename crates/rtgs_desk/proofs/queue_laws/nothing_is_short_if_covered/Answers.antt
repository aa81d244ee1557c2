use Rattle.rtgs_desk.proofs.QueueLaws.{covered}
use Rattle.rtgs_desk.proofs.queue_laws.nothing_is_short_if_covered.Goals as goal

pub returns : goal.returns
returns c = covered
