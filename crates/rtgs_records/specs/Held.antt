-- A ledger, as contracts see it, and the room that the rows of a change find, one after another.
use Rattle.std.specs.Prelude.{◌≡◌, ℕ, ◌-◌, ◌≤◌, ◌<◌, ◌^◌, true, false, List, [], ◌∷◌, Option, Some, None, if◌then◌else◌}
use Rattle.std.specs.Prelude.{⊤, Bool, length}
use Rattle.std.specs.List.{find, list_any}
use Rattle.rtgs_book.specs.declared.change.RowChange.{RowChange}
use Rattle.rtgs_book.specs.declared.change.RowChange.TheVariants.{AddParticipant, AddPosting, AddOrder, AddMark}
use Rattle.rtgs_book.specs.declared.change.RowChange.TheVariants.{SetCredit, SetBalance, SetState, EnterQueue, SetDay}
use Rattle.rtgs_book.specs.declared.limits.TheConstants.{LARGEST_NUMBER, MOST_PARTICIPANTS}
use Rattle.rtgs_book.specs.Books.{is_held, is_waiting, is_waiting_state}
use Rattle.rtgs_book.specs.declared.cores.cores.Core.{Core}
use Rattle.rtgs_book.specs.cores.Following.{is_of, core_after_row}
use Rattle.rtgs_records.specs.accounts.Accounts.{has_key}

-- how many participants, and orders that are queued or held, can be added without memory, the sender of whom there is
-- room for one more, and whether that one may be held
pub record Room : Type 0 where
  pub participants : ℕ
  pub orders : ℕ
  pub awaited : Option (List ℕ)
  pub holds : Bool

-- the core of a book, and the room for what comes next
pub record Held : Type 0 where
  pub core : Core
  pub room : Room

-- The row can be made: what it adds is new, has the next number, and finds its room. No order waits again, and no two
-- participants get a key. An order that enters its queue has had its room since it was taken.
abbrev pub FindsRoom : Held → RowChange → Type 0
FindsRoom held (AddParticipant participant) = (find (is_of participant.code) held.core.accounts ≡ None)
    × (list_any (has_key participant.key) held.core.accounts ≡ false)
    × (length held.core.accounts < MOST_PARTICIPANTS) × (1 ≤ held.room.participants)
FindsRoom held (AddPosting posting) = held.core.next_posting ≤ LARGEST_NUMBER
FindsRoom held (AddOrder order) = (order.number ≡ held.core.next_order) × (held.core.next_order ≤ LARGEST_NUMBER)
    × (is_waiting order ≡ true → (1 ≤ held.room.orders) × (held.room.awaited ≡ Some order.sender))
    × (is_held order ≡ true → held.room.holds ≡ true)
FindsRoom held (AddMark mark) = held.core.next_mark < 2 ^ 63
FindsRoom held (SetCredit code credit) = ⊤
FindsRoom held (SetBalance code balance) = ⊤
FindsRoom held (SetState number state) = is_waiting_state state ≡ false
FindsRoom held (EnterQueue number date) = ⊤
FindsRoom held (SetDay day) = ⊤

abbrev pub room_after : Room → RowChange → Room
room_after room (AddParticipant participant) = record room { participants = room.participants - 1 }
room_after room (AddOrder order) =
    if is_waiting order then record room { orders = room.orders - 1; awaited = None } else room
room_after room row = room

abbrev pub after_row : Held → RowChange → Held
after_row held row = record { core = core_after_row held.core row; room = room_after held.room row }

-- each row finds its room, after those before it
abbrev pub HasRoom : Held → List RowChange → Type 0
HasRoom held [] = ⊤
HasRoom held (row ∷ rows) = FindsRoom held row × HasRoom (after_row held row) rows
