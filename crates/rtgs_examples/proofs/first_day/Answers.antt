use Rattle.rtgs_examples.proofs.Computed.{first_day_comes}
use Rattle.rtgs_examples.proofs.first_day.Goals as goal

pub returns : goal.returns
returns c = first_day_comes c.procedure_finds_the_greatest.ensures
