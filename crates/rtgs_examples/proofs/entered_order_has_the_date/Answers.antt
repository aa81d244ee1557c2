use Rattle.rtgs_examples.proofs.Held.{entered_order_has_the_date_comes}
use Rattle.rtgs_examples.proofs.entered_order_has_the_date.Goals as goal

pub returns : goal.returns
returns c = entered_order_has_the_date_comes c.procedure_finds_the_greatest.ensures
