use Rattle.rtgs_http_requests.proofs.StepsAnswered.{input_answered}
use Rattle.rtgs_http_requests.proofs.laws.every_input_has_an_answer.Goals as goal

pub returns : goal.returns
returns c = input_answered c.args._alloc c.every_input_has_an_outcome.ensures
