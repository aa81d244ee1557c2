use Rattle.rtgs_examples.proofs.Computed.{close_with_overdraft_comes}
use Rattle.rtgs_examples.proofs.close_with_overdraft.Goals as goal

pub returns : goal.returns
returns c = close_with_overdraft_comes c.procedure_finds_the_greatest.ensures
