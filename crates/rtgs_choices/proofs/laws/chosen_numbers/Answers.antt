use Rattle.rtgs_choices.proofs.Taken.{chosen_by_number, chosen_count}
use Rattle.rtgs_choices.proofs.laws.chosen_numbers.Goals as goal

pub returns : goal.returns
returns c = record {
  numbers = λ book choice sound. chosen_by_number c.chosen_are_beginnings.ensures book choice sound;
  count = λ book choice sound. chosen_count c.chosen_are_beginnings.ensures book choice sound;
}
