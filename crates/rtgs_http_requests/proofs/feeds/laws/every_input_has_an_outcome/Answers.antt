use Rattle.rtgs_http_requests.proofs.feeds.Outcomes.{outcome}
use Rattle.rtgs_http_requests.proofs.feeds.laws.every_input_has_an_outcome.Goals as goal

pub returns : goal.returns
returns c = outcome
