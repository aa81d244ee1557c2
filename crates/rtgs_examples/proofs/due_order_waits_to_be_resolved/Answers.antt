use Rattle.rtgs_examples.proofs.Held.{due_order_waits_to_be_resolved_comes}
use Rattle.rtgs_examples.proofs.due_order_waits_to_be_resolved.Goals as goal

pub returns : goal.returns
returns c = due_order_waits_to_be_resolved_comes c.procedure_finds_the_greatest.ensures
