use Rattle.rtgs_http_requests.proofs.feeds.Starts.{not_open, not_long}
use Rattle.rtgs_http_requests.proofs.feeds.laws.outcomes_are_apart.Goals as goal

pub returns-clause-long : goal.returns-clause-long
returns-clause-long c = not_long

pub returns-clause-unfinished : goal.returns-clause-unfinished
returns-clause-unfinished c = not_open
