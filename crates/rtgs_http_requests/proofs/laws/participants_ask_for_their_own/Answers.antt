use Rattle.rtgs_http_requests.proofs.Access.{own_alone}
use Rattle.rtgs_http_requests.proofs.laws.participants_ask_for_their_own.Goals as goal

pub returns : goal.returns
returns c = own_alone
