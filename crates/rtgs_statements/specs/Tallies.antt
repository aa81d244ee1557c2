-- Orders by where they stand.
use Rattle.std.specs.Prelude.{◌+◌, ◌<◌, ◌^◌, pos, ◌+ℤ◌, if◌then◌else◌, List, [], ◌∷◌}
use Rattle.rtgs_book.specs.declared.order.Order.{Order}
use Rattle.rtgs_book.specs.declared.standing.Standing.{Standing}
use Rattle.rtgs_book.specs.declared.standing.Standing.TheVariants.{Settled, Queued, Held, Withdrawn, Rejected}
use Rattle.rtgs_book.specs.Standings.{stands}
use Rattle.rtgs_statements.specs.Sums.{IsSmall}
use Rattle.rtgs_statements.specs.declared.tally.Tally.{Tally}
use Rattle.rtgs_statements.specs.declared.tallies.Tallies.{Tallies}

abbrev pub tally_of : Tallies → Standing → Tally
tally_of tallies Settled = tallies.settled
tally_of tallies Queued = tallies.queued
tally_of tallies Held = tallies.held
tally_of tallies Withdrawn = tallies.withdrawn
tally_of tallies Rejected = tallies.rejected

-- the standings in the order in which a report tells them
abbrev pub reported_standings : List Standing
reported_standings = Settled ∷ Queued ∷ Held ∷ Withdrawn ∷ Rejected ∷ []

abbrev pub no_orders : Tally
no_orders = record { count = 0; cents = pos 0 }

-- with this order too, where it stands so
abbrev pub tally_with : Tally → Standing → Order → Tally
tally_with tally standing order = record {
  count = tally.count + (if stands standing order.state then 1 else 0);
  cents = tally.cents +ℤ (if stands standing order.state then pos order.amount else pos 0);
}

-- it leaves room for one order more
abbrev pub HasRoomForOrder : Tally → Type 0
HasRoomForOrder tally = (tally.count + 1 < 2 ^ 64) × IsSmall tally.cents

abbrev pub HaveRoom : Tallies → Type 0
HaveRoom tallies = (standing : Standing) → HasRoomForOrder (tally_of tallies standing)
