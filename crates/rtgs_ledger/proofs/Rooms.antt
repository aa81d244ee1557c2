-- The room that rows find: those of states, of balances and of an opening, and those of two changes as one.
use Rattle.std.proofs.Common.{◌≡◌, ℕ, ◌≤◌, ◌<◌, ◌^◌, ◌+◌, true, false, List, [], ◌∷◌, ◌++◌, map, filter}
use Rattle.std.proofs.Common.{length, slice_get, Some, refl, sym, ap, arith}
use Rattle.std.specs.List.{AllByRecursion}
use Rattle.rtgs_book.specs.declared.account.Account.{Account}
use Rattle.rtgs_book.specs.declared.change.RowChange.{RowChange}
use Rattle.rtgs_book.specs.declared.change.RowChange.TheVariants.{AddParticipant, AddPosting, AddOrder, AddMark}
use Rattle.rtgs_book.specs.declared.change.RowChange.TheVariants.{SetCredit, SetBalance, SetState, EnterQueue, SetDay}
use Rattle.rtgs_book.specs.declared.day.Day.{Day}
use Rattle.rtgs_book.specs.declared.limits.TheConstants.{LARGEST_NUMBER}
use Rattle.rtgs_book.specs.declared.mark.Mark.{Mark}
use Rattle.rtgs_book.specs.declared.order.Order.{Order}
use Rattle.rtgs_book.specs.declared.order_state.OrderState.{OrderState}
use Rattle.rtgs_book.specs.declared.order_state.OrderState.TheVariants.{Queued, Settled, Withdrawn, Rejected}
use Rattle.rtgs_book.specs.declared.order_state.OrderState.TheVariants as state
use Rattle.rtgs_book.specs.Books.{is_held_state, is_waiting_state}
use Rattle.rtgs_book.specs.declared.cores.cores.Core.{Core}
use Rattle.rtgs_book.specs.cores.Following.{WaitsNoMore}
use Rattle.rtgs_choices.specs.Joining.{without_balances}
use Rattle.rtgs_choices.specs.Settling.{state_rows}
use Rattle.rtgs_records.specs.accounts.Accounts.{code_of, with_limit}
use Rattle.rtgs_records.specs.Held.{Held, Room, HasRoom, after_row}
use Rattle.rtgs_ledger.specs.Following.{AddsNoParticipant, FreesOrders, adds_mark}
use Rattle.rtgs_ledger.specs.Resolving.{has_moved, settling}
use Rattle.rtgs_ledger.specs.Rooms.{CanBeMade, Covers, no_room, room_for, room_of}

pub covers_itself : (room : Room) → Covers room room
covers_itself room =
    record { participants = omega arith; orders = omega arith; awaited = λ sender e. e; holds = λ e. e }

-- ---- rows that find their room let no order wait again

pub none_again : (rows : List RowChange) (held : Held) → HasRoom held rows → AllByRecursion WaitsNoMore rows
none_again [] held room = tt
none_again (SetState number state ∷ rows) held room = (room.0, none_again rows _ room.1)
none_again (AddParticipant participant ∷ rows) held room = (tt, none_again rows _ room.1)
none_again (AddPosting posting ∷ rows) held room = (tt, none_again rows _ room.1)
none_again (AddOrder order ∷ rows) held room = (tt, none_again rows _ room.1)
none_again (AddMark mark ∷ rows) held room = (tt, none_again rows _ room.1)
none_again (SetCredit code credit ∷ rows) held room = (tt, none_again rows _ room.1)
none_again (SetBalance code balance ∷ rows) held room = (tt, none_again rows _ room.1)
none_again (EnterQueue number date ∷ rows) held room = (tt, none_again rows _ room.1)
none_again (SetDay day ∷ rows) held room = (tt, none_again rows _ room.1)

-- ---- rows of one kind

-- what comes after the rows of states finds its room after them
pub room_for_states : (state : OrderState) → is_waiting_state state ≡ false → (numbers : List ℕ) (held : Held)
    (rows : List RowChange) → ((after : Held) → HasRoom after rows) → HasRoom held (state_rows state numbers ++ rows)
room_for_states state done [] held rows room = room held
room_for_states state done (n ∷ ns) held rows room =
    (done, room_for_states state done ns (after_row held (SetState n state)) rows room)

room_for_balances : (held : Held) (xs : List Account) → HasRoom held
    (map (λ (a : Account). SetBalance (code_of a) a.balance) xs)
room_for_balances held [] = tt
room_for_balances held (x ∷ xs) = (tt, room_for_balances (after_row held (SetBalance (code_of x) x.balance)) xs)

-- of the rows of a resolution only the mark needs any
pub room_to_settle : (mark : Mark) (old new : List Account) (orders : List Order) (held : Held)
    → held.core.next_mark < 2 ^ 63 → HasRoom held (settling orders mark old new)
room_to_settle mark old new [] held few =
    (few, room_for_balances (after_row held (AddMark mark)) (filter (has_moved old) new))
room_to_settle mark old new (o ∷ orders) held few =
    (refl, room_to_settle mark old new orders (after_row held (SetState o.number (Settled mark.number))) few)

-- the rows of an opening find their room
pub room_to_open : (date : ℕ) (numbers : List ℕ) (held : Held) (day : Day)
    → HasRoom held (map (λ n. EnterQueue n date) numbers ++ SetDay day ∷ [])
room_to_open date [] held day = (tt, tt)
room_to_open date (n ∷ ns) held day = (tt, room_to_open date ns (after_row held (EnterQueue n date)) day)

held_waits : (state : OrderState) → is_held_state state ≡ true → is_waiting_state state ≡ true
held_waits Queued e = refl
held_waits state.Held e = refl
held_waits (Settled mark) e = absurd (cc)
held_waits Withdrawn e = absurd (cc)
held_waits Rejected e = absurd (cc)

-- an order that is not settled at once can be added, with its room
pub order_can_be_made : (core : Core) (o : Order) → o.number ≡ core.next_order → core.next_order ≤ LARGEST_NUMBER
    → CanBeMade core (AddOrder o ∷ [])
order_can_be_made core o next few room covers = (
  (
    next,
    few,
    λ waits. let needed = rw waits at covers in (needed.orders, needed.awaited o.sender refl),
    λ held. let needed = rw (held_waits o.state held) at covers in needed.holds held,
  ),
  tt,
)

pub room_of_first : (rows : List RowChange) (row : RowChange) → Some row ≡ slice_get rows 0
    → room_for rows ≡ room_of row
room_of_first [] row e = absurd (cc)
room_of_first (first ∷ rows) row e = let same : row ≡ first = cc in ap room_of (sym same)

-- ---- what a command changes by itself, without its balances, and more

abbrev pub marks_in : List RowChange → ℕ
marks_in rows = length (filter adds_mark rows)

-- what has other accounts has the same room for rows that add no participant
abbrev with_accounts : Held → List Account → Held
with_accounts held xs = record { core = record held.core { accounts = xs }; room = held.room }

room_own : (rows more : List RowChange) (held : Held) (xs : List Account) → HasRoom held rows
    → AllByRecursion AddsNoParticipant rows
    → ((later : Held) → later.core.next_mark ≡ held.core.next_mark + marks_in rows → HasRoom later more)
    → HasRoom (with_accounts held xs) (without_balances rows ++ more)
room_own [] more held xs room none rest = rest (with_accounts held xs) (omega arith)
room_own (AddParticipant p ∷ rows) more held xs room none rest = absurd none.0
room_own (AddPosting p ∷ rows) more held xs room none rest =
    (room.0, room_own rows more (after_row held (AddPosting p)) xs room.1 none.1 rest)
room_own (AddOrder o ∷ rows) more held xs room none rest =
    (room.0, room_own rows more (after_row held (AddOrder o)) xs room.1 none.1 rest)
room_own (AddMark m ∷ rows) more held xs room none rest = (
  room.0,
  room_own rows more (after_row held (AddMark m)) xs room.1 none.1 (λ later e. rest later (omega (arith, e))),
)
room_own (SetCredit code credit ∷ rows) more held xs room none rest =
    (tt, room_own rows more (after_row held (SetCredit code credit)) (with_limit code credit xs) room.1 none.1 rest)
room_own (SetBalance code b ∷ rows) more held xs room none rest =
    room_own rows more (after_row held (SetBalance code b)) xs room.1 none.1 rest
room_own (SetState number state ∷ rows) more held xs room none rest =
    (room.0, room_own rows more (after_row held (SetState number state)) xs room.1 none.1 rest)
room_own (EnterQueue number date ∷ rows) more held xs room none rest =
    (tt, room_own rows more (after_row held (EnterQueue number date)) xs room.1 none.1 rest)
room_own (SetDay day ∷ rows) more held xs room none rest =
    (tt, room_own rows more (after_row held (SetDay day)) xs room.1 none.1 rest)

room_balances : (held : Held) (xs : List Account) → HasRoom held
    (map (λ (a : Account). SetBalance (code_of a) a.balance) xs)
room_balances held [] = tt
room_balances held (x ∷ xs) = (tt, room_balances (after_row held (SetBalance (code_of x) x.balance)) xs)

covers_none : (room : Room) → Covers room no_room
covers_none room = record {
  participants = omega arith;
  orders = omega arith;
  awaited = λ sender e. absurd (cc);
  holds = λ e. absurd (cc);
}

-- the first row that needs room is the same
same_room : (own more : List RowChange) (room : Room) → AllByRecursion AddsNoParticipant own
    → Covers room (room_for (without_balances own ++ more)) → Covers room (room_for own)
same_room [] more room none covers = covers_none room
same_room (AddOrder o ∷ rows) more room none covers = covers
same_room (AddParticipant p ∷ rows) more room none covers = absurd none.0
same_room (AddPosting p ∷ rows) more room none covers = covers
same_room (AddMark m ∷ rows) more room none covers = covers
same_room (SetCredit code credit ∷ rows) more room none covers = covers
same_room (SetBalance code b ∷ rows) more room none covers = covers_none room
same_room (SetState number state ∷ rows) more room none covers = covers
same_room (EnterQueue number date ∷ rows) more room none covers = covers
same_room (SetDay day ∷ rows) more room none covers = covers

-- the rows of both can be made where those of the command by itself can: of the others only the mark needs any room
pub joined_can_be_made : (core : Core) (own : List RowChange) (orders : List Order) (mark : Mark)
    (old new : List Account) → CanBeMade core own → FreesOrders own → core.next_mark + 2 ≤ 2 ^ 63
    → CanBeMade core (without_balances own ++ settling orders mark old new)
joined_can_be_made core own orders mark old new made frees few room covers =
    let more = settling orders mark old new in
    room_own own more (record { core = core; room = room }) core.accounts
    (made room (same_room own more room frees.participants covers)) frees.participants
    (λ later e. room_to_settle mark old new orders later (let one = frees.marks in omega (arith, few, e, one)))
