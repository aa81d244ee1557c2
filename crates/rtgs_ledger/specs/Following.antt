-- What a command by itself leaves to be resolved.
use Rattle.std.specs.Prelude.{◌≤◌, Bool, true, false, not, ◌&&◌, List, [], ◌∷◌, filter, length, ⊤, Ok}
use Rattle.std.specs.List.{AllByRecursion}
use Rattle.rtgs_book.specs.declared.answer.Answer.{Answer}
use Rattle.rtgs_book.specs.declared.change.RowChange.{RowChange}
use Rattle.rtgs_book.specs.declared.change.RowChange.TheVariants.{AddParticipant, AddMark, SetDay}
use Rattle.rtgs_book.specs.declared.command.Command.{Command}
use Rattle.rtgs_book.specs.declared.day.Day.{Day}
use Rattle.rtgs_book.specs.Books.{is_automatic}
use Rattle.rtgs_book.specs.Outcome.{is_done}
use Rattle.rtgs_book.specs.Step.{may_free}
use Rattle.rtgs_choices.specs.Joining.{sets_balance}

-- the day that the rows leave
abbrev pub day_after : Day → List RowChange → Day
day_after day [] = day
day_after day (SetDay later ∷ rows) = day_after later rows
day_after day (row ∷ rows) = day_after day rows

abbrev pub adds_mark : RowChange → Bool
adds_mark (AddMark mark) = true
adds_mark row = false

abbrev pub AddsNoParticipant : RowChange → Type 0
AddsNoParticipant (AddParticipant participant) = ⊥
AddsNoParticipant row = ⊤

-- a resolution follows: the command may free orders and acted, and its rows leave an automatic day
abbrev pub is_followed_by : Command → Answer → Day → List RowChange → Bool
is_followed_by command own day rows = may_free command && is_done (Ok own) && is_automatic (day_after day rows)

-- what commands that a resolution may follow change by themselves
pub record FreesOrders (rows : List RowChange) : Type 0 where
  pub participants : AllByRecursion AddsNoParticipant rows
  pub marks : length (filter adds_mark rows) ≤ 1

unfoldable pub sets_no_balance : RowChange → Bool
sets_no_balance row = not (sets_balance row)
