use Rattle.rtgs_examples.proofs.Automatic.{order_frees_another_comes}
use Rattle.rtgs_examples.proofs.order_frees_another.Goals as goal

pub returns : goal.returns
returns c = order_frees_another_comes c.procedure_finds_the_greatest.ensures
