use Rattle.rtgs_gridlock.proofs.SlackLemmas.{last_withdrawn}
use Rattle.rtgs_gridlock.proofs.slack.last_withdrawn_keeps_limits.Goals as goal

pub returns : goal.returns
returns c = last_withdrawn
