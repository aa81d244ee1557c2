use Rattle.std.proofs.Common.{refl}
use Rattle.std.specs.Fmt.{digits}
use Rattle.serde_json.proofs.OnLiterals.{serde_json_on_literals}
use Rattle.rtgs_http_bodies.proofs.replies.reply.Reply.answer_lost.Goals as goal

pub returns : goal.returns
unfolding digits serde_json_on_literals
returns c = refl
