use Rattle.rtgs_http_requests.proofs.feeds.Joined.{heads_join, bodies_join}
use Rattle.rtgs_http_requests.proofs.feeds.laws.pieces_may_be_joined.Goals as goal

pub returns-clause-head : goal.returns-clause-head
returns-clause-head c = heads_join

pub returns-clause-body : goal.returns-clause-body
returns-clause-body c = bodies_join
