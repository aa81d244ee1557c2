use Rattle.rtgs_choices.proofs.Rows.{sets_balances}
use Rattle.rtgs_choices.proofs.laws.balances_one_by_one.Goals as goal

pub returns : goal.returns
returns c = λ book choice numbers mark. sets_balances c.settled_balances.ensures book choice numbers mark
