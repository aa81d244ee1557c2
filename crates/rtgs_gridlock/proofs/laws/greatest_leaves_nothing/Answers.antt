use Rattle.rtgs_gridlock.proofs.LawLemmas.{IsGreatest-settled}
use Rattle.rtgs_gridlock.proofs.laws.greatest_leaves_nothing.Goals as goal

pub returns : goal.returns
returns c = λ positions rest_positions queues rest_queues choice is settled.
    IsGreatest-settled positions rest_positions queues rest_queues choice is settled
