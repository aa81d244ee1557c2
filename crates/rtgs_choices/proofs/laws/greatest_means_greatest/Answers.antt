use Rattle.rtgs_choices.proofs.Greatest.{greatest_by_code}
use Rattle.rtgs_choices.proofs.laws.greatest_means_greatest.Goals as goal

pub returns : goal.returns
returns c = λ book lengths sound greatest. greatest_by_code c.chosen_are_beginnings.ensures book sound lengths greatest
