use Rattle.std.proofs.Common.{◌≡◌}
use Rattle.rtgs_book.specs.Books.{is_held, is_queued}
use Rattle.rtgs_desk.proofs.TallyLemmas.{IsBelow, tally_before}
use Rattle.rtgs_desk.proofs.tallies.tallies_of.Given as goal

-- the tallies so far
abbrev pub invariant-loop-order : goal.invariant-loop-order
invariant-loop-order l = record {
  queued : l.queued ≡ tally_before is_queued l.order-index l.orders;
  held : l.held ≡ tally_before is_held l.order-index l.orders;
  queued_below : IsBelow l.queued l.order-index;
  held_below : IsBelow l.held l.order-index;
}
