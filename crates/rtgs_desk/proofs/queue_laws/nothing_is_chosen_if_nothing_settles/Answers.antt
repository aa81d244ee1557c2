use Rattle.rtgs_desk.proofs.QueueLaws.{nothing_chosen}
use Rattle.rtgs_desk.proofs.queue_laws.nothing_is_chosen_if_nothing_settles.Goals as goal

pub returns : goal.returns
returns c = nothing_chosen c.chosen_are_beginnings.ensures
