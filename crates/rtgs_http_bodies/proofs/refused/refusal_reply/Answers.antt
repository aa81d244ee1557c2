use Rattle.std.proofs.Common.{◌∙◌, ap}
use Rattle.std.proofs.lemmas.Result.{IfOk-weaker}
use Rattle.rtgs_book.specs.Refusals.{refusal_kind_of}
use Rattle.rtgs_http_bodies.proofs.Undetailed.{undetailed}
use Rattle.rtgs_http_bodies.specs.replies.Kinds.{kind_status}
use Rattle.rtgs_http_bodies.specs.replies.Messages.{json_message}
use Rattle.rtgs_http_bodies.proofs.refused.refusal_reply.Goals as goal

pub returns-in_default-clause-replied : goal.returns-in_default-clause-replied
returns-in_default-clause-replied c =
    IfOk-weaker c.kind_reply.result _ _
    (λ reply h. h ∙ rw c.kind.ensures (ap (json_message (kind_status (refusal_kind_of c.args.refusal)))
    (undetailed c.args.refusal c.in_default.not-Overdrawn)))
    c.kind_reply.ensures.replied
