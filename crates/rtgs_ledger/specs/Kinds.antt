-- Which answers and refusals a command can have, and which answers change nothing.
use Rattle.std.specs.Prelude.{◌≡◌, Bool, true, false, ◌&&◌, List, [], Ok, is_some, ⊤}
use Rattle.rtgs_book.specs.declared.answer.Answer.{Answer}
use Rattle.rtgs_book.specs.declared.answer.Answer.TheVariants as answer
use Rattle.rtgs_book.specs.declared.command.Command.{Command}
use Rattle.rtgs_book.specs.declared.command.Command.TheVariants as command
use Rattle.rtgs_book.specs.declared.answer.Known.TheVariants as known
use Rattle.rtgs_book.specs.declared.refusal.Refusal.{Refusal}
use Rattle.rtgs_book.specs.declared.refusal.Refusal.TheVariants.{StoreFault, Failed}
use Rattle.rtgs_book.specs.declared.change.RowChange.{RowChange}
use Rattle.rtgs_book.specs.declared.answer.WholeAnswer.{WholeAnswer}
use Rattle.rtgs_book.specs.Outcome.{is_done}
use Rattle.rtgs_book.specs.Step.{may_free}

-- an order can have this answer
abbrev pub answers_an_order : Answer → Bool
answers_an_order (answer.Settled number mark) = true
answers_an_order (answer.Queued number place) = true
answers_an_order (answer.Held number due) = true
answers_an_order (answer.Repeated (known.Order number state)) = true
answers_an_order other = false

-- a command of this kind can have this answer
abbrev pub answers_its_kind : Command → Answer → Bool
answers_its_kind (command.Order sender new_order) given = answers_an_order given
answers_its_kind (command.Add code name key) answer.Added = true
answers_its_kind (command.Add code name key) (answer.Repeated known.Nothing) = true
answers_its_kind (command.SetCredit code credit) answer.CreditSet = true
answers_its_kind (command.Post code reference cents) (answer.Posted number) = true
answers_its_kind (command.Post code reference cents) (answer.Repeated (known.Posting number)) = true
answers_its_kind (command.Withdraw sender reference) (answer.Withdrawn number) = true
answers_its_kind (command.Withdraw sender reference) (answer.Repeated (known.Order number state)) = true
answers_its_kind (command.OpenDay new_day) answer.Opened = true
answers_its_kind (command.OpenDay new_day) (answer.Repeated known.Nothing) = true
answers_its_kind command.Resolve (answer.Resolved mark count value) = true
answers_its_kind command.Resolve answer.Nothing = true
answers_its_kind (command.CutOff date) answer.CutOffDone = true
answers_its_kind (command.CutOff date) (answer.Repeated known.Nothing) = true
answers_its_kind (command.CloseDay date) (answer.Closed rejected) = true
answers_its_kind (command.CloseDay date) (answer.Repeated known.Nothing) = true
answers_its_kind command other = false

-- what was done before, and a resolution that settles nothing, have no change
abbrev pub IsQuiet : Answer → List RowChange → Type 0
IsQuiet (answer.Repeated known) rows = rows ≡ []
IsQuiet answer.Nothing rows = rows ≡ []
IsQuiet other rows = ⊤

-- the command by itself can have this answer, with this change
abbrev pub CanAnswerByItself : Command → Answer → List RowChange → Type 0
CanAnswerByItself command given rows = (answers_its_kind command given ≡ true) × IsQuiet given rows

-- The whole step can have this answer: its own is one of the command's kind, and something is resolved only after a
-- command that may free orders, and that acted.
abbrev pub IsOfItsKind : Command → WholeAnswer → Type 0
IsOfItsKind command given = (answers_its_kind command given.own ≡ true)
    × (is_some given.auto ≡ true → (may_free command && is_done (Ok given.own)) ≡ true)

-- so it can, with this change
abbrev pub CanAnswer : Command → WholeAnswer → List RowChange → Type 0
CanAnswer command given rows = IsOfItsKind command given × IsQuiet given.own rows

-- a refusal that is about a store, and about no command
abbrev pub is_of_the_store : Refusal → Bool
is_of_the_store StoreFault = true
is_of_the_store Failed = true
is_of_the_store other = false
