use Rattle.rtgs_http_requests.proofs.feeds.Starts.{unique}
use Rattle.rtgs_http_requests.proofs.feeds.laws.regions_are_determined.Goals as goal

pub returns : goal.returns
returns c = unique
