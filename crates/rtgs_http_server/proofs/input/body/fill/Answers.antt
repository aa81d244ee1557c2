use Rattle.std.proofs.Common.{◌≡◌, ◌++◌, length, take, Ok, ap, ◌∙◌, subst, sym}
use Rattle.std.specs.Io.KnownBytes.{Consumes}
use Rattle.rtgs_http_requests.specs.Exchange.{HasBody}
use Rattle.rtgs_http_server.proofs.input.Joined.{full}
use Rattle.rtgs_http_server.proofs.input.Known.{consumed, consumes_more}
use Rattle.rtgs_http_server.proofs.input.body.fill.Goals as goal

pub returns-in-Full-clause-body : goal.returns-in-Full-clause-body
returns-in-Full-clause-body g c =
    let known = g.R.Read.remaining in
    let inv = c.loop-turn.invariant in
    let piece = c.rest-in-loop-turn.result.now in
    let given = subst (Consumes (known c.loop-turn.reader) (known c.read.new.reader)) (sym c.rest-in-loop-turn.ensures)
    c.in_default.ensures.given in
    let body = c.feed.new.self in
    let bytes : body.bytes ≡ (c.args.feed.now.bytes ++ inv.3.0) ++ take c.in-Full.taken piece =
    ap (λ b. b.bytes) c.in-Full.ensures.1 ∙ ap (λ b. b ++ take c.in-Full.taken piece) inv.3.1 in
    let size : length body.bytes ≡ c.args.feed.now.wanted =
    c.in-Full.ensures.2 ∙ ap (λ b. b.wanted) c.in-Full.ensures.1 ∙ inv.2 in
    consumed (known c.args.reader.now) (known c.read.new.reader) (inv.3.0 ++ piece)
    (λ rest. HasBody (c.args.feed.now.bytes ++ rest) c.args.feed.now.wanted (Ok body.bytes))
    (consumes_more (known c.args.reader.now) (known c.loop-turn.reader)
    (known c.read.new.reader) inv.3.0 piece inv.3.2 given)
    (λ rest. full c.args.feed.now.bytes inv.3.0 piece body.bytes rest c.in-Full.taken c.args.feed.now.wanted bytes size)
