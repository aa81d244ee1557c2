use Rattle.std.proofs.Common.{◌≡◌, ◌≤◌, ◌++◌, take, vec_capacity}
use Rattle.rtgs_http_requests.specs.declared.feeds.limits.TheConstants.{LONGEST_HEAD}
use Rattle.rtgs_http_requests.specs.feeds.Region.{IsOpen}
use Rattle.rtgs_http_requests.proofs.feeds.head_feed.take_head.Given as goal

-- The bytes before this place were taken, and the region has not ended.
abbrev pub invariant-loop-index : goal.invariant-loop-index
invariant-loop-index l = record {
  taken : l.seen.items ≡ l.initial.seen.items ++ take l.index l.piece;
  unfinished : IsOpen l.seen.items;
  room : LONGEST_HEAD ≤ vec_capacity l.seen;
}
