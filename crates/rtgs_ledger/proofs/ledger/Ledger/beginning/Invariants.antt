use Rattle.std.proofs.Common.{◌≡◌, ◌≤◌, length, take, vec_capacity}
use Rattle.rtgs_book.specs.Queue.{queued_among}
use Rattle.rtgs_ledger.proofs.ledger.Ledger.beginning.Given as goal

-- the first of the queue, and room for `count` of them
abbrev pub invariant-loop-number : goal.invariant-loop-number
invariant-loop-number l = record {
  orders : l.orders.items ≡ take l.number-index (queued_among l.self-inside.records.orders.orders l.sender);
  room : l.count ≤ vec_capacity l.orders;
  within : l.number-index ≤ l.count;
  so_many : length l.orders.items ≡ l.number-index;
}
