use Rattle.rtgs_choices.proofs.Ceilings.{calm_book}
use Rattle.rtgs_choices.proofs.laws.calm_means_calm.Goals as goal

pub returns : goal.returns
returns c = λ book sound calm. calm_book c.chosen_are_beginnings.ensures book sound calm
