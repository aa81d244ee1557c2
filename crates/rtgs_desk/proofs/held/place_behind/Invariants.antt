use Rattle.std.proofs.Common.{◌≡◌, ◌++◌, take, drop}
use Rattle.rtgs_book.specs.declared.order.Order.{Order}
use Rattle.rtgs_desk.specs.Readings.{placed}
use Rattle.rtgs_desk.proofs.held.place_behind.Given as goal

-- an order of this date stands behind those so far
abbrev pub invariant-loop-index : goal.invariant-loop-index
invariant-loop-index l = (order : Order) → order.date ≡ l.date
    → take l.index l.orders ++ placed (drop l.index l.orders) order ≡ placed l.orders order
