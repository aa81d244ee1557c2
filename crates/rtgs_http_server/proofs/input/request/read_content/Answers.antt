use Rattle.std.proofs.Common.{Ok, Err, ◌++◌, subst}
use Rattle.rtgs_http_requests.specs.Plans.{AfterCaller}
use Rattle.rtgs_http_requests.specs.Exchange.{HasBody}
use Rattle.rtgs_http_requests.specs.Meaning.{Means}
use Rattle.rtgs_http_requests.specs.heads.Parameters.{taken}
use Rattle.rtgs_http_server.specs.input.Input.{StepFails}
use Rattle.rtgs_http_server.proofs.input.Known.{known_map}
use Rattle.rtgs_http_server.proofs.input.StepOutcomes.{body_fails}
use Rattle.rtgs_http_server.proofs.input.request.read_content.Goals as goal

pub returns-in-Err-read_body : goal.returns-in-Err-read_body
returns-in-Err-read_body g c =
    known_map (g.R.Read.remaining c.args.reader.now) (λ rest.
    StepFails (λ fault. HasBody (c.args.piece.now ++ rest) c.in-Ok.size (Err fault)) c.in-Err-read_body.unread)
    (λ rest. StepFails (λ fault. AfterCaller c.args.plan.now (c.args.piece.now ++ rest) c.args.caller
    (Err fault)) c.in-Err-read_body.unread)
    (λ rest h. body_fails c.args.plan.now
    (c.args.piece.now ++ rest) c.args.caller c.in-Ok.size c.in-Err-read_body.unread c.in-Ok.ensures h)
    c.in-Err-read_body.ensures.fault

pub returns-in-Ok-read_asked : goal.returns-in-Ok-read_asked
returns-in-Ok-read_asked g c =
    let body = c.in-Ok-read_body.body.bytes in
    let means = subst (λ b. Means c.args.caller (taken c.args.plan.now.parameters) b
    (Ok c.in-Ok-read_asked.asked)) c.bytes.ensures.value c.in-Ok-read_asked.ensures in
    known_map (g.R.Read.remaining c.args.reader.now) (λ rest. HasBody (c.args.piece.now ++ rest) c.in-Ok.size (Ok body))
    (λ rest. AfterCaller c.args.plan.now (c.args.piece.now ++ rest) c.args.caller (Ok c.in-Ok-read_asked.asked))
    (λ rest h. (Ok c.in-Ok.size, c.in-Ok.ensures, (Ok body, h, means))) c.in-Ok-read_body.ensures.body

pub returns : goal.returns
returns g c =
    let body = c.in-Ok-read_body.body.bytes in
    let means = subst (λ b. Means c.args.caller (taken c.args.plan.now.parameters) b
    (Err c.in-Err-read_asked.fault)) c.bytes.ensures.value c.in-Err-read_asked.ensures in
    known_map (g.R.Read.remaining c.args.reader.now) (λ rest. HasBody (c.args.piece.now ++ rest) c.in-Ok.size (Ok body))
    (λ rest. AfterCaller c.args.plan.now (c.args.piece.now ++ rest) c.args.caller (Err c.in-Err-read_asked.fault))
    (λ rest h. (Ok c.in-Ok.size, c.in-Ok.ensures, (Ok body, h, means))) c.in-Ok-read_body.ensures.body
