use Rattle.rtgs_examples.proofs.Held.{due_date_is_judged_last_comes}
use Rattle.rtgs_examples.proofs.due_date_is_judged_last.Goals as goal

pub returns : goal.returns
returns c = due_date_is_judged_last_comes
