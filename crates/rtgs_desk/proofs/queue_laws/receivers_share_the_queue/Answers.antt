use Rattle.rtgs_desk.proofs.QueueLaws.{share}
use Rattle.rtgs_desk.proofs.queue_laws.receivers_share_the_queue.Goals as goal

pub returns : goal.returns
returns c = share
