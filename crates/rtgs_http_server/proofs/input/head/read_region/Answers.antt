use Rattle.std.proofs.Common.{◌++◌, subst, sym}
use Rattle.std.specs.Io.KnownBytes.{Consumes}
use Rattle.rtgs_http_requests.specs.feeds.Region.{IsTooLong}
use Rattle.rtgs_http_server.proofs.input.Joined.{too_long}
use Rattle.rtgs_http_server.proofs.input.Known.{consumed, consumes_more}
use Rattle.rtgs_http_server.proofs.input.head.read_region.Goals as goal

pub returns-in-TooLong-clause-fault : goal.returns-in-TooLong-clause-fault
returns-in-TooLong-clause-fault g c =
    let known = g.R.Read.remaining in
    let inv = c.loop-turn.invariant in
    let piece = c.rest-in-loop-turn.result.now in
    let given = subst (Consumes (known c.loop-turn.reader) (known c.read.new.reader)) (sym c.rest-in-loop-turn.ensures)
    c.in_default-read.ensures.given in
    consumed (known c.args.reader.now) (known c.read.new.reader) (c.loop-turn.feed ++ piece) IsTooLong
    (consumes_more (known c.args.reader.now) (known c.loop-turn.reader)
    (known c.read.new.reader) c.loop-turn.feed piece inv.0 given)
    (λ rest. too_long (c.loop-turn.feed ++ piece) rest c.in-TooLong.ensures.1)
