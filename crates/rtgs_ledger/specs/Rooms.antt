-- Rows that were decided on, and the room in which they can be made.
use Rattle.std.specs.Prelude.{◌≡◌, ℕ, ◌≤◌, true, false, if◌then◌else◌, List, [], ◌∷◌, Some, None}
use Rattle.rtgs_book.specs.declared.change.RowChange.{RowChange}
use Rattle.rtgs_book.specs.declared.change.RowChange.TheVariants.{AddParticipant, AddOrder}
use Rattle.rtgs_book.specs.Books.{is_held, is_waiting}
use Rattle.rtgs_book.specs.declared.cores.cores.Core.{Core}
use Rattle.rtgs_records.specs.Held.{HasRoom, Room}

abbrev pub no_room : Room
no_room = record { participants = 0; orders = 0; awaited = None; holds = false }

-- the room that a row needs
abbrev pub room_of : RowChange → Room
room_of (AddParticipant participant) = record no_room { participants = 1 }
room_of (AddOrder order) = if is_waiting order
    then record { participants = 0; orders = 1; awaited = Some order.sender; holds = is_held order } else no_room
room_of row = no_room

-- the room that is made for rows: only the first needs any
abbrev pub room_for : List RowChange → Room
room_for [] = no_room
room_for (row ∷ rows) = room_of row

-- the one room is no less than the other
pub record Covers (more less : Room) : Type 0 where
  pub participants : less.participants ≤ more.participants
  pub orders : less.orders ≤ more.orders
  pub awaited : (sender : List ℕ) → less.awaited ≡ Some sender → more.awaited ≡ Some sender
  pub holds : less.holds ≡ true → more.holds ≡ true

-- the rows can be made one after another, in each room that has what the first needs
abbrev pub CanBeMade : Core → List RowChange → Type 0
CanBeMade core rows = (room : Room) → Covers room (room_for rows) → HasRoom (record { core = core; room = room }) rows
