-- What lasts of a command that was answered.
use Rattle.std.specs.Prelude.{◌≡◌, ℕ, ℤ, pos, ◌+ℤ◌, true, List, [], ◌∷◌, Ok, ⊤}
use Rattle.rtgs_book.specs.declared.book.Book.{Book}
use Rattle.rtgs_book.specs.declared.command.Command.{Command}
use Rattle.rtgs_book.specs.declared.command.Command.TheVariants.{SetCredit, OpenDay, Resolve, CutOff, CloseDay}
use Rattle.rtgs_book.specs.declared.answer.Answer.TheVariants.{CreditSet, Nothing, Closed}
use Rattle.rtgs_book.specs.Balance.{total}
use Rattle.rtgs_book.specs.Choice.{Choice, chosen, IsGreatest}
use Rattle.rtgs_book.specs.Commands.{repeated}
use Rattle.rtgs_book.specs.Laws.{posted, KeepsWhatIsFinal}
use Rattle.rtgs_book.specs.Calm.{IsCalm}
use Rattle.rtgs_book.specs.Outcome.{Reply, alone, own_of}
use Rattle.rtgs_book.specs.Run.{Run, is_accepted, once}
use Rattle.rtgs_book.specs.Step.{Step}
use Rattle.rtgs_laws.specs.repeats.Once.{once_replies}
use Rattle.rtgs_laws.specs.repeats.Repeats.{acts_once, answered_number, IsRepeat}

-- whatever comes after this book, the command is answered as a repeat, and changes nothing
abbrev pub IsKnown : Book → Command → Reply → Type 0
IsKnown book command reply =
    (commands : List Command) (replies : List Reply) (later : Book) → Run book commands replies later
    → (again : Reply) × IsRepeat later command (answered_number reply) again × Step later command again later

-- the command at once again changes nothing
abbrev pub StaysAtOnce : Book → Command → Type 0
StaysAtOnce book (SetCredit code credit) = Step book (SetCredit code credit) (alone (Ok CreditSet)) book
StaysAtOnce book (OpenDay new_day) = Step book (OpenDay new_day) (alone repeated) book
StaysAtOnce book Resolve = Step book Resolve (alone (Ok Nothing)) book
StaysAtOnce book (CutOff date) = Step book (CutOff date) (alone repeated) book
StaysAtOnce book (CloseDay date) = Step book (CloseDay date) (alone repeated) book
StaysAtOnce book command = ⊤

-- what lasts of a command, its reply, and the book that it leaves
pub record IsLasting (old : Book) (command : Command) (reply : Reply) (new : Book) : Type 0 where
  -- marks and settled orders stand
  pub stands : KeepsWhatIsFinal old new
  -- money is what was posted
  pub money : total new ≡ total old +ℤ posted command reply
  -- what acts once is known for good
  pub known : acts_once command ≡ true → is_accepted reply ≡ true → IsKnown new command reply
  -- and the rest where it comes again at once
  pub at_once : is_accepted reply ≡ true → StaysAtOnce new command
  -- what a close rejected was a deadlock
  pub deadlock : (date count : ℕ) → command ≡ CloseDay date → own_of reply ≡ Ok (Closed count) → (choice : Choice)
      → IsGreatest old choice → chosen old choice ≡ []
  -- a calm book stays calm, and so does any book that a resolution followed
  pub calm : IsCalm old → IsCalm new

-- what the accepted postings of a list add to all balances together
abbrev pub posted_by : List Command → List Reply → ℤ
posted_by (command ∷ commands) (reply ∷ replies) = posted command reply +ℤ posted_by commands replies
posted_by commands replies = pos 0

-- what lasts of a list of commands
pub record AreLasting (old : Book) (commands : List Command) (replies : List Reply) (new : Book) : Type 0 where
  pub stands : KeepsWhatIsFinal old new
  -- money is what was posted
  pub money : total new ≡ total old +ℤ posted_by commands replies
  -- each order and posting but once makes the same book, with the same replies to what stays
  pub once : Run old (once old commands replies) (once_replies old commands replies) new
  pub calm : IsCalm old → IsCalm new
