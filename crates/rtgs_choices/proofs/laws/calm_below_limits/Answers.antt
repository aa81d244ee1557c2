use Rattle.rtgs_choices.proofs.Ceilings.{calm_below}
use Rattle.rtgs_choices.proofs.laws.calm_below_limits.Goals as goal

pub returns : goal.returns
returns c = λ book limits sound ceiling below. calm_below c.chosen_are_beginnings.ensures book sound limits ceiling
    below
