use Rattle.std.proofs.Common.{◌≡◌, ◌≤◌, ◌<◌, ◌++◌, ℕ, List, length}
use Rattle.std.specs.Io.KnownBytes.{Consumes}
use Rattle.rtgs_http_server.proofs.input.body.fill.Given as goal

abbrev pub invariant-loop-turn : goal.invariant-loop-turn
invariant-loop-turn g l =
    (l._turn ≤ length l.feed.bytes) × (length l.feed.bytes < l.feed.wanted) × (l.feed.wanted ≡ l.initial.feed.wanted)
    × ((more : List ℕ) × (l.feed.bytes ≡ l.initial.feed.bytes ++ more) × Consumes (g.R.Read.remaining l.initial.reader)
    (g.R.Read.remaining l.reader) more)
