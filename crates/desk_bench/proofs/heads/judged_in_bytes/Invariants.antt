use Rattle.rtgs_http_requests.specs.feeds.Region.{IsOpen}
use Rattle.desk_bench.proofs.heads.judged_in_bytes.Given as goal

-- The bytes before this place hold no region.
abbrev pub invariant-loop-place : goal.invariant-loop-place
invariant-loop-place l = IsOpen l.feed
