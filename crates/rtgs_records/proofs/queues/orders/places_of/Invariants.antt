use Rattle.std.proofs.Common.{◌≡◌, ◌≤◌, ℕ, List, take, length}
use Rattle.rtgs_book.specs.Books.{is_queued_state, is_held_state}
use Rattle.rtgs_records.specs.queues.Orders.{numbers_among}
use Rattle.rtgs_records.specs.queues.QueueNumbers.{numbers_of, room_of}
use Rattle.rtgs_records.proofs.queues.orders.places_of.Given as goal

abbrev pub invariant-loop-order : goal.invariant-loop-order
invariant-loop-order l = record {
  queued : (sender : List ℕ) → numbers_of l.queues sender ≡ numbers_among is_queued_state (take l.order-index l.orders)
      sender;
  held : (sender : List ℕ) → numbers_of l.held sender ≡ numbers_among is_held_state (take l.order-index l.orders)
      sender;
  roomy : (sender : List ℕ) → length (numbers_of l.held sender) ≤ room_of l.queues sender;
}
