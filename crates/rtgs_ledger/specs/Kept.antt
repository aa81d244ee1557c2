-- What a command gives in a ledger that has the core of a book.
use Rattle.std.specs.Prelude.{Bool, true, false, ◌≡◌, ◌≢◌, ◌⊎◌, List, [], Ok, Err}
use Rattle.std.specs.List.{AllByRecursion}
use Rattle.rtgs_book.specs.declared.book.Book.{Book}
use Rattle.rtgs_book.specs.declared.change.RowChange.{RowChange}
use Rattle.rtgs_book.specs.declared.command.Command.{Command}
use Rattle.rtgs_book.specs.declared.command.Command.TheVariants.{CloseDay}
use Rattle.rtgs_book.specs.declared.answer.Answer.{Answer}
use Rattle.rtgs_book.specs.declared.answer.WholeAnswer.{WholeAnswer}
use Rattle.rtgs_book.specs.declared.answer.Answer.TheVariants.{Nothing, Repeated}
use Rattle.rtgs_book.specs.declared.answer.Known.{Known}
use Rattle.rtgs_book.specs.declared.refusal.Refusal.{Refusal}
use Rattle.rtgs_book.specs.declared.refusal.Refusal.TheVariants.{OutOfMemory}
use Rattle.rtgs_book.specs.Changes.{Leads, StartsEmpty}
use Rattle.rtgs_book.specs.Laws.{CommandFits}
use Rattle.rtgs_book.specs.Outcome.{is_done}
use Rattle.rtgs_book.specs.Session.{is_judged}
use Rattle.rtgs_book.specs.Step.{OwnStep, Step}
use Rattle.rtgs_book.specs.declared.cores.cores.Core.{Core}
use Rattle.rtgs_book.specs.cores.Following.{AreBalanced, core_after}

-- What a command by itself is answered, and what its change is: its rows lead from the book to the one that the command
-- leaves with this answer, give no money to a participant that they add, and set the running balances right.
pub record IsPreparedByItself (old : Book) (core : Core) (command : Command) (answer : Answer) (rows : List RowChange)
    : Type 0 where
  pub book : Book
  pub step : OwnStep old command (Ok answer) book
  pub leads : Leads old rows book
  pub added : AllByRecursion (StartsEmpty book rows) rows
  -- where they change anything, the amount of the command is in its range
  pub in_range : rows ≢ [] → CommandFits command
  pub balanced : AreBalanced book (core_after core rows).accounts
  -- a command that was done before has no change
  pub repeated : (known : Known) → answer ≡ Repeated known → rows ≡ []
  -- nor has a resolution that settles nothing
  pub nothing : answer ≡ Nothing → rows ≡ []

-- the same of the whole step, with what was resolved after the command
pub record IsPrepared (old : Book) (core : Core) (command : Command) (answer : WholeAnswer) (rows : List RowChange)
    : Type 0 where
  pub book : Book
  pub step : Step old command (Ok answer) book
  pub leads : Leads old rows book
  pub added : AllByRecursion (StartsEmpty book rows) rows
  pub in_range : rows ≢ [] → CommandFits command
  pub balanced : AreBalanced book (core_after core rows).accounts
  pub repeated : (known : Known) → answer.own ≡ Repeated known → rows ≡ []
  pub nothing : answer.own ≡ Nothing → rows ≡ []

-- by itself the command would act: it is neither refused nor was it done before
abbrev pub WouldAct : Book → Command → Type 0
WouldAct book command = (answer : Answer) × (new : Book) × OwnStep book command (Ok answer) new
    × (is_done (Ok answer) ≡ true)

abbrev pub closes_a_day : Command → Bool
closes_a_day (CloseDay date) = true
closes_a_day command = false

-- Lack of memory hides no refusal: the command would act. The one exception closes a day, since it takes memory to find
-- whether orders that are queued could be settled together, and further tests come after that.
abbrev pub LacksMemory : Book → Command → Refusal → Type 0
LacksMemory book command refusal = (refusal ≡ OutOfMemory) × (closes_a_day command ≡ false → WouldAct book command)

-- by itself the command is refused by the first of its tests that holds, or for lack of memory
abbrev pub IsRefusedByItself : Book → Command → Refusal → Type 0
IsRefusedByItself book command refusal = LacksMemory book command refusal
    ⊎ (OwnStep book command (Err refusal) book × (is_judged (Err refusal) ≡ true))

-- the same of the whole step, where what follows the command may lack memory too
abbrev pub IsCommandRefused : Book → Command → Refusal → Type 0
IsCommandRefused book command refusal = LacksMemory book command refusal
    ⊎ (Step book command (Err refusal) book × (is_judged (Err refusal) ≡ true))
