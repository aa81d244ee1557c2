use Rattle.rtgs_examples.proofs.Automatic.{due_order_settles_at_the_opening_comes}
use Rattle.rtgs_examples.proofs.due_order_settles_at_the_opening.Goals as goal

pub returns : goal.returns
returns c = due_order_settles_at_the_opening_comes c.procedure_finds_the_greatest.ensures
