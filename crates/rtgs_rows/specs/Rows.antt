-- The rows that records have in the tables. A stored row begins with its row number; where a column is the row number,
-- it is stored as null.
use Rattle.std.specs.Prelude.{ℕ, ◌<◌, ◌^◌, ℤ, pos, Bool, true, false, Option, [], ◌∷◌, ⊤}
use Rattle.sqlite.specs.declared.types.Value.{Value}
use Rattle.sqlite.specs.declared.types.Value.TheVariants.{Null, Int, Text, Blob}
use Rattle.sqlite.specs.Order.{Row}
use Rattle.sqlite.specs.Values.{or_null}
use Rattle.rtgs_money.specs.Date.{date_text}
use Rattle.rtgs_book.specs.declared.day.Day.{Day}
use Rattle.rtgs_book.specs.declared.phase.Phase.{Phase}
use Rattle.rtgs_book.specs.declared.phase.Phase.TheVariants.{Closed, Open, CutOff}
use Rattle.rtgs_book.specs.declared.account.Account.{Account}
use Rattle.rtgs_book.specs.declared.participant.Participant.{Participant}
use Rattle.rtgs_book.specs.declared.posting.Posting.{Posting}
use Rattle.rtgs_book.specs.declared.order.Order.{Order}
use Rattle.rtgs_book.specs.declared.mark.Mark.{Mark}
use Rattle.rtgs_book.specs.declared.order_state.OrderState.{OrderState}
use Rattle.rtgs_book.specs.declared.order_state.OrderState.TheVariants.{Queued, Held, Settled, Withdrawn, Rejected}
use Rattle.rtgs_rows.specs.declared.numbers.TheConstants.{PHASE_CLOSED, PHASE_OPEN, PHASE_CUT_OFF, STATE_QUEUED}
use Rattle.rtgs_rows.specs.declared.numbers.TheConstants.{STATE_SETTLED, STATE_WITHDRAWN, STATE_REJECTED, STATE_HELD}
use Rattle.rtgs_rows.specs.declared.numbers.TheConstants.{RESOLUTION_ON_REQUEST, RESOLUTION_AUTOMATIC}
use Rattle.rtgs_rows.specs.declared.desk_row.DeskRow.{DeskRow}
use Rattle.rtgs_rows.specs.declared.resolution_row.ResolutionRow.{ResolutionRow}
use Rattle.rtgs_rows.specs.declared.forward.Forward.{Forward}

-- what stands for a phase in its column
abbrev pub phase_number : Phase → ℕ
phase_number Closed = PHASE_CLOSED
phase_number Open = PHASE_OPEN
phase_number CutOff = PHASE_CUT_OFF

-- for whether a day is automatic
abbrev pub resolution_number : Bool → ℕ
resolution_number false = RESOLUTION_ON_REQUEST
resolution_number true = RESOLUTION_AUTOMATIC

-- and for an order's state
abbrev pub state_number : OrderState → ℕ
state_number Queued = STATE_QUEUED
state_number (Settled mark) = STATE_SETTLED
state_number Withdrawn = STATE_WITHDRAWN
state_number Rejected = STATE_REJECTED
state_number Held = STATE_HELD

-- a settled order has its mark, and no other order has one
abbrev pub mark_value : OrderState → Value
mark_value Queued = Null
mark_value Held = Null
mark_value (Settled mark) = Int (pos mark)
mark_value Withdrawn = Null
mark_value Rejected = Null

-- a column has room for the mark
abbrev pub FitsColumn : OrderState → Type 0
FitsColumn Queued = ⊤
FitsColumn Held = ⊤
FitsColumn (Settled mark) = mark < 2 ^ 63
FitsColumn Withdrawn = ⊤
FitsColumn Rejected = ⊤

-- no date is null
abbrev pub date_value : Option ℕ → Value
date_value = or_null (λ date. Text (date_text date))

-- id 1, version, date, phase
abbrev pub desk_row : DeskRow → Row
desk_row d = Int (pos 1) ∷ Null ∷ Int (pos d.version) ∷ date_value d.date ∷ Int (pos (phase_number d.phase)) ∷ []

-- id 1, automatic
abbrev pub resolution_row : ResolutionRow → Row
resolution_row r = Int (pos 1) ∷ Null ∷ Int (pos (resolution_number r.automatic)) ∷ []

-- what these two rows say of a day, in tables of this version
abbrev pub desk_row_of : ℕ → Day → DeskRow
desk_row_of version day = record { version = version; date = day.date; phase = day.phase }

abbrev pub resolution_row_of : Day → ResolutionRow
resolution_row_of day = record { automatic = day.automatic }

-- the row of a day in the table `desk`, and that in the table `resolution`
abbrev pub day_row : ℕ → Day → Row
day_row version day = desk_row (desk_row_of version day)

abbrev pub choice_row : Day → Row
choice_row day = resolution_row (resolution_row_of day)

-- code, name, key, credit, balance; the row numbers tell in which order the participants came
abbrev pub participant_row : ℤ → Participant → ℤ → Row
participant_row id p balance = Int id ∷ Text p.code ∷ Text p.name ∷ Blob p.key ∷ Int (pos p.credit) ∷ Int balance ∷ []

-- number, code, reference, cents, date
abbrev pub posting_row : Posting → Row
posting_row p = Int (pos p.number) ∷ Null ∷ Text p.code ∷ Text p.reference ∷ Int p.cents ∷ date_value p.date ∷ []

-- number, sender, reference, receiver, amount, date, state, mark; a due date stands in a table of its own
abbrev pub order_row : Order → Row
order_row o = Int (pos o.number) ∷ Null ∷ Text o.sender ∷ Text o.reference ∷ Text o.receiver ∷ Int (pos o.amount)
    ∷ Text (date_text o.date) ∷ Int (pos (state_number o.state)) ∷ mark_value o.state ∷ []

-- number, date, many, value
abbrev pub mark_row : Mark → Row
mark_row m = Int (pos m.number) ∷ Null ∷ Text (date_text m.date) ∷ Int (pos m.count) ∷ Int m.value ∷ []

-- number, due
abbrev pub forward_row : Forward → Row
forward_row f = Int (pos f.number) ∷ Null ∷ Text (date_text f.due) ∷ []

-- ---- as the queries show them

abbrev pub shown_desk : DeskRow → Row
shown_desk d = Int (pos 1) ∷ Int (pos d.version) ∷ date_value d.date ∷ Int (pos (phase_number d.phase)) ∷ []

abbrev pub shown_resolution : ResolutionRow → Row
shown_resolution r = Int (pos 1) ∷ Int (pos (resolution_number r.automatic)) ∷ []

abbrev pub shown_account : Account → Row
shown_account a = Text a.participant.code ∷ Text a.participant.name ∷ Blob a.participant.key
    ∷ Int (pos a.participant.credit) ∷ Int a.balance ∷ []

abbrev pub shown_posting : Posting → Row
shown_posting p = Int (pos p.number) ∷ Text p.code ∷ Text p.reference ∷ Int p.cents ∷ date_value p.date ∷ []

abbrev pub shown_order : Order → Row
shown_order o = Int (pos o.number) ∷ Text o.sender ∷ Text o.reference ∷ Text o.receiver ∷ Int (pos o.amount)
    ∷ Text (date_text o.date) ∷ Int (pos (state_number o.state)) ∷ mark_value o.state ∷ []

abbrev pub shown_mark : Mark → Row
shown_mark m = Int (pos m.number) ∷ Text (date_text m.date) ∷ Int (pos m.count) ∷ Int m.value ∷ []

abbrev pub shown_forward : Forward → Row
shown_forward f = Int (pos f.number) ∷ Text (date_text f.due) ∷ []
