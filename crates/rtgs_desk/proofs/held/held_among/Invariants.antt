use Rattle.std.proofs.Common.{◌≡◌, drop, fold}
use Rattle.rtgs_desk.specs.Readings.{by_date, held_among, placed}
use Rattle.rtgs_desk.proofs.held.held_among.Given as goal

-- the held orders so far, with those that are left put in, are all of them
abbrev pub invariant-loop-order : goal.invariant-loop-order
invariant-loop-order l = fold placed l.held.items (held_among (drop l.order-index l.orders) l.sender)
    ≡ by_date (held_among l.orders l.sender)
