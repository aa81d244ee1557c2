use Rattle.rtgs_gridlock.proofs.SlackLemmas.{idle_ceiling}
use Rattle.rtgs_gridlock.proofs.slack.no_queue_no_limit.Goals as goal

pub returns : goal.returns
returns c = idle_ceiling
