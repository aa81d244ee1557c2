use Rattle.rtgs_laws.proofs.Sound.{step_sound}
use Rattle.rtgs_laws.proofs.laws.own_step_keeps_soundness.Goals as goal

pub returns : goal.returns
returns c = step_sound (record {
  posting = c.balance_after_posting.ensures;
  restating = c.balance_after_restating.ensures;
  entering = c.balance_after_entering.ensures;
  settling = c.balance_after_settling.ensures;
  unknown = c.balance_of_unknown_code.ensures;
  issue = c.total_is_issued.ensures;
})
