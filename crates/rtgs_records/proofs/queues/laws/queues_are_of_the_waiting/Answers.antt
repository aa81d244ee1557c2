use Rattle.rtgs_records.proofs.queues.Reading.{among_waiting}
use Rattle.rtgs_records.proofs.queues.laws.queues_are_of_the_waiting.Goals as goal

pub returns : goal.returns
returns c orders sender = among_waiting sender orders
