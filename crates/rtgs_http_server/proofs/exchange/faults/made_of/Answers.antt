use Rattle.std.proofs.Common.{◌∙◌, sym}
use Rattle.std.proofs.lemmas.Result.{IfOk-weaker}
use Rattle.rtgs_http_server.proofs.exchange.Undetailed.{undetailed}
use Rattle.rtgs_http_server.proofs.exchange.faults.made_of.Goals as goal

pub returns-in_default : goal.returns-in_default
returns-in_default c =
    IfOk-weaker c.kind_reply.result _ _
    (λ reply h. h ∙ rw c.kind.ensures (sym (undetailed c.args.fault c.in_default.not-Batch)))
    c.kind_reply.ensures.replied
