use Rattle.rtgs_desk.proofs.QueueLaws.{nothing_settles}
use Rattle.rtgs_desk.proofs.queue_laws.nothing_settles_if_nothing_is_chosen.Goals as goal

pub returns : goal.returns
returns c = nothing_settles c.chosen_are_beginnings.ensures
