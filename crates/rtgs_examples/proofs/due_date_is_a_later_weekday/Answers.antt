use Rattle.rtgs_examples.proofs.Held.{due_date_is_a_later_weekday_comes}
use Rattle.rtgs_examples.proofs.due_date_is_a_later_weekday.Goals as goal

pub returns : goal.returns
returns c = due_date_is_a_later_weekday_comes
