use Rattle.rtgs_http_requests.proofs.heads.Unique.{one_head, one_length}
use Rattle.rtgs_http_requests.proofs.heads.laws.heads_are_determined.Goals as goal

pub returns-clause-head : goal.returns-clause-head
returns-clause-head c = one_head

pub returns-clause-length : goal.returns-clause-length
returns-clause-length c = one_length
