use Rattle.rtgs_laws.proofs.Calm.{step_calm}
use Rattle.rtgs_laws.proofs.laws.step_keeps_calm.Goals as goal

pub returns : goal.returns
returns c = step_calm (record {
  posting = c.balance_after_posting.ensures;
  restating = c.balance_after_restating.ensures;
  entering = c.balance_after_entering.ensures;
  settling = c.balance_after_settling.ensures;
  unknown = c.balance_of_unknown_code.ensures;
  issue = c.total_is_issued.ensures;
}) c.chosen_are_beginnings.ensures c.rest_stays_queued.ensures c.settled_balances.ensures c.greatest_exists.ensures
    c.own_step_keeps_soundness.ensures
