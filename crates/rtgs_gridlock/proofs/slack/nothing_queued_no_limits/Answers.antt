use Rattle.rtgs_gridlock.proofs.SlackLemmas.{nothing_queued}
use Rattle.rtgs_gridlock.proofs.slack.nothing_queued_no_limits.Goals as goal

pub returns : goal.returns
returns c = nothing_queued
