use Rattle.rtgs_book.specs.declared.order.Order.{Order}
use Rattle.rtgs_choices.proofs.Taken.{taken_numbers, sum_by-taken, gains_taken}
use Rattle.rtgs_choices.proofs.laws.taken_are_chosen.Goals as goal

pub returns : goal.returns
returns c = record {
  numbers = λ book choice sound. taken_numbers c.chosen_are_beginnings.ensures book choice sound;
  value = λ book choice sound. sum_by-taken c.chosen_are_beginnings.ensures book choice sound (λ (o : Order). o.amount);
  gains = λ book choice code sound. gains_taken c.chosen_are_beginnings.ensures book choice sound code;
}
