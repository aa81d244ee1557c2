use Rattle.std.proofs.Common.{◌≤◌, length}
use Rattle.std.specs.Io.KnownBytes.{Consumes}
use Rattle.rtgs_http_requests.specs.feeds.Region.{IsOpen}
use Rattle.rtgs_http_server.proofs.input.head.read_region.Given as goal

abbrev pub invariant-loop-turn : goal.invariant-loop-turn
invariant-loop-turn g l = Consumes (g.R.Read.remaining l.initial.reader)
    (g.R.Read.remaining l.reader) l.feed × IsOpen l.feed × (l._turn ≤ length l.feed)
