use Rattle.rtgs_desk.proofs.QueueLaws.{agree}
use Rattle.rtgs_desk.proofs.queue_laws.queues_agree_with_accounts.Goals as goal

pub returns : goal.returns
returns c = agree
