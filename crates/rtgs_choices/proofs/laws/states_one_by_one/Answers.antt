use Rattle.rtgs_choices.proofs.Rows.{changed-states, changed-settled}
use Rattle.rtgs_choices.proofs.laws.states_one_by_one.Goals as goal

pub returns : goal.returns
returns c = record {
  states = changed-states;
  settled = λ book choice numbers balances by_number some of_balances. changed-settled book choice numbers by_number
      some balances of_balances;
}
