use Rattle.rtgs_laws.proofs.Lifting.{whole_step_moves}
use Rattle.rtgs_laws.proofs.Steady.{total_moves}
use Rattle.rtgs_laws.proofs.laws.total_moves_by_postings.Goals as goal

pub returns : goal.returns
returns c = whole_step_moves (total_moves c.total_is_issued.ensures c.own_step_keeps_soundness.ensures)
    c.own_step_keeps_soundness.ensures
