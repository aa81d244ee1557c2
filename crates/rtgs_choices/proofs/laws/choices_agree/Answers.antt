use Rattle.rtgs_choices.proofs.Agree.{balances_agree, count_is, value_is}
use Rattle.rtgs_choices.proofs.Inputs.{index_of-code_at, by_code-at}
use Rattle.rtgs_choices.proofs.laws.choices_agree.Goals as goal

pub returns : goal.returns
returns c = record {
  indexes = index_of-code_at;
  lengths = by_code-at;
  balances = λ book lengths i sound less. balances_agree c.chosen_are_beginnings.ensures book lengths sound i less;
  count = λ book lengths sound within. count_is c.chosen_are_beginnings.ensures book lengths sound within;
  value = λ book lengths sound. value_is c.chosen_are_beginnings.ensures book lengths sound;
}
