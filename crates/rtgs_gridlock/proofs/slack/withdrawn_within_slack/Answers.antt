use Rattle.rtgs_gridlock.proofs.SlackLemmas.{withdrawn_below}
use Rattle.rtgs_gridlock.proofs.slack.withdrawn_within_slack.Goals as goal

pub returns : goal.returns
returns c = withdrawn_below
