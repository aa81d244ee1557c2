use Rattle.rtgs_http_requests.proofs.heads.Unique.{one_key}
use Rattle.rtgs_http_requests.proofs.heads.laws.keys_are_determined.Goals as goal

pub returns : goal.returns
returns c = one_key
