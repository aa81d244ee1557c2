use Rattle.rtgs_choices.proofs.Agree.{payments-le}
use Rattle.rtgs_choices.proofs.Inputs.{length-positions, length-queues, floored, in_range}
use Rattle.rtgs_choices.proofs.laws.conditions_hold.Goals as goal

pub returns : goal.returns
returns c = record {
  positions = length-positions;
  queues = length-queues;
  floored = floored;
  receivers = in_range;
  payments = payments-le;
}
