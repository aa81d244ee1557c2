use Rattle.std.proofs.Common.{◌∙◌}
use Rattle.std.proofs.lemmas.Result.{IfOk-weaker}
use Rattle.rtgs_http_bodies.proofs.replies.Heads.{head_spelled}
use Rattle.rtgs_http_bodies.proofs.replies.reply.head.Goals as goal

pub returns : goal.returns
returns c = IfOk-weaker c.format.result _ _ (λ text h. h
    ∙ rw (c.reason_of-reason.ensures, c.name-name.ensures, c.as_u16-number.ensures.value)
    (head_spelled _ _ _ _)) c.format.ensures.ok
