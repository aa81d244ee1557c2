-- The book and its records under short names, and the tests of a phase and a state.
use Rattle.std.specs.Prelude.{Bool, true, false, not, ◌&&◌, List, [], ◌∷◌, None, is_some}
pub use Rattle.rtgs_book.specs.declared.book.Book.{Book}
pub use Rattle.rtgs_book.specs.declared.day.Day.{Day}
pub use Rattle.rtgs_book.specs.declared.phase.Phase.{Phase}
pub use Rattle.rtgs_book.specs.declared.phase.Phase.TheVariants.{Closed, Open, CutOff}
pub use Rattle.rtgs_book.specs.declared.participant.Participant.{Participant}
pub use Rattle.rtgs_book.specs.declared.posting.Posting.{Posting}
pub use Rattle.rtgs_book.specs.declared.new_day.NewDay.{NewDay}
pub use Rattle.rtgs_book.specs.declared.new_order.NewOrder.{NewOrder}
pub use Rattle.rtgs_book.specs.declared.order.Order.{Order}
pub use Rattle.rtgs_book.specs.declared.mark.Mark.{Mark}
pub use Rattle.rtgs_book.specs.declared.order_state.OrderState.{OrderState}
pub use Rattle.rtgs_book.specs.declared.order_state.OrderState.TheVariants.{Queued, Held, Settled, Withdrawn, Rejected}

abbrev pub is_closed : Phase → Bool
is_closed Closed = true
is_closed phase = false

abbrev pub is_open : Phase → Bool
is_open Open = true
is_open phase = false

abbrev pub is_cut_off : Phase → Bool
is_cut_off CutOff = true
is_cut_off phase = false

-- a resolution follows commands: the day was opened as an automatic one, and is in progress
abbrev pub is_automatic : Day → Bool
is_automatic day = day.automatic && not (is_closed day.phase)

abbrev pub is_queued_state : OrderState → Bool
is_queued_state Queued = true
is_queued_state state = false

abbrev pub is_held_state : OrderState → Bool
is_held_state Held = true
is_held_state state = false

-- it may yet be settled, or taken back: it stands in its queue, or will enter it
abbrev pub is_waiting_state : OrderState → Bool
is_waiting_state Queued = true
is_waiting_state Held = true
is_waiting_state state = false

abbrev pub is_settled_state : OrderState → Bool
is_settled_state (Settled mark) = true
is_settled_state state = false

abbrev pub is_withdrawn_state : OrderState → Bool
is_withdrawn_state Withdrawn = true
is_withdrawn_state state = false

abbrev pub is_queued : Order → Bool
is_queued order = is_queued_state order.state

abbrev pub is_held : Order → Bool
is_held order = is_held_state order.state

abbrev pub is_waiting : Order → Bool
is_waiting order = is_waiting_state order.state

-- its sender named a due date
abbrev pub has_due : Order → Bool
has_due order = is_some order.due

abbrev pub is_settled : Order → Bool
is_settled order = is_settled_state order.state

abbrev pub is_empty : {X : Type 0} → List X → Bool
is_empty [] = true
is_empty (x ∷ xs) = false

-- the book of a new desk: nothing recorded, and closed
abbrev pub new_book : Book
new_book = record {
  participants = [];
  postings = [];
  orders = [];
  marks = [];
  day = record { date = None; phase = Closed; automatic = false };
}
