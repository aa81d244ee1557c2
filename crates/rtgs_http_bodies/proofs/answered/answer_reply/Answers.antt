use Rattle.std.proofs.Common.{◌∙◌, ap}
use Rattle.serde_json.specs.Written.{has_float}
use Rattle.rtgs_http_bodies.proofs.Auto.{answer_has_no_float}
use Rattle.rtgs_http_bodies.proofs.answered.answer_reply.Goals as goal

pub json-requires : goal.json-requires
json-requires c = ap has_float c.in_ok-value.ensures ∙ answer_has_no_float c.args.answer
