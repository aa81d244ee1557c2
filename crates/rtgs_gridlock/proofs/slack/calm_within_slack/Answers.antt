use Rattle.rtgs_gridlock.proofs.SlackLemmas.{calm_within}
use Rattle.rtgs_gridlock.proofs.slack.calm_within_slack.Goals as goal

pub returns : goal.returns
returns c = calm_within
