use Rattle.rtgs_gridlock.proofs.SlackLemmas.{settled_slack}
use Rattle.rtgs_gridlock.proofs.slack.slack_outlasts_settling.Goals as goal

pub returns : goal.returns
returns c = settled_slack
