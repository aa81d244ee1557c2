use Rattle.rtgs_gridlock.proofs.SlackLemmas.{appended_uncovered}
use Rattle.rtgs_gridlock.proofs.slack.appended_without_cover.Goals as goal

pub returns : goal.returns
returns c = appended_uncovered
