use Rattle.rtgs_gridlock.proofs.SlackLemmas.{calm_below, lower_ceiling}
use Rattle.rtgs_gridlock.proofs.slack.calm_below_limits.Goals as goal

pub returns-clause-calm : goal.returns-clause-calm
returns-clause-calm c = calm_below

pub returns-clause-lower : goal.returns-clause-lower
returns-clause-lower c = lower_ceiling
