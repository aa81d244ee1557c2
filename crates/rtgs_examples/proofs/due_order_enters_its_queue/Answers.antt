use Rattle.rtgs_examples.proofs.Held.{due_order_enters_its_queue_comes}
use Rattle.rtgs_examples.proofs.due_order_enters_its_queue.Goals as goal

pub returns : goal.returns
returns c = due_order_enters_its_queue_comes c.procedure_finds_the_greatest.ensures
