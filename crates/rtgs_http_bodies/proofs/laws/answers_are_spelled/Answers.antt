use Rattle.rtgs_http_bodies.proofs.Spelled.{answer_spelled}
use Rattle.rtgs_http_bodies.proofs.laws.answers_are_spelled.Goals as goal

pub returns : goal.returns
returns c = answer_spelled
