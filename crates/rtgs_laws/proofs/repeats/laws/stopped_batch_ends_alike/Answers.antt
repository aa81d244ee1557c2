use Rattle.rtgs_laws.proofs.repeats.Stopped.{stopped}
use Rattle.rtgs_laws.proofs.repeats.laws.stopped_batch_ends_alike.Goals as goal

pub returns : goal.returns
returns c = stopped c.resumed_batch_ends_alike.ensures c.what_did_not_act_leaves_the_book.ensures
