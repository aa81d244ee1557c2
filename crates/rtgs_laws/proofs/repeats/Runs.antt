-- What goes through a book in between, and holds of each command of a kind, holds of a list of that kind.
use Rattle.std.proofs.Common.{List, [], ◌∷◌, sym, subst}
use Rattle.std.specs.List.{AllByRecursion}
use Rattle.rtgs_book.specs.declared.book.Book.{Book}
use Rattle.rtgs_book.specs.declared.command.Command.{Command}
use Rattle.rtgs_book.specs.Outcome.{OwnReply, Reply}
use Rattle.rtgs_book.specs.Run.{Run}
use Rattle.rtgs_book.specs.Soundness.{IsSound}
use Rattle.rtgs_book.specs.Step.{OwnStep, Step}
use Rattle.rtgs_laws.specs.Through.{GoesThrough}

-- each command by itself keeps a sound book sound
abbrev pub KeepsSoundness : Type 0
KeepsSoundness = (old new : Book) (command : Command) (reply : OwnReply) → IsSound old → OwnStep old command reply new
    → IsSound new

abbrev pub StepKeepsSoundness : Type 0
StepKeepsSoundness = (old new : Book) (command : Command) (reply : Reply) → IsSound old → Step old command reply new
    → IsSound new

module _ (keeps : StepKeepsSoundness) (Kind : Command → Type 0) (Relation : Book → Book → Type 0)
    (goes : GoesThrough Relation)
    (steps : (old new : Book) (command : Command) (reply : Reply) → IsSound old → Kind command
    → Step old command reply new → Relation old new) where
  pub over_run : (old new : Book) (commands : List Command) (replies : List Reply) → IsSound old
      → AllByRecursion Kind commands → Run old commands replies new → Relation old new
  over_run old new [] [] h all r = subst (Relation old) (sym r) (goes.itself old)
  over_run old new [] (reply ∷ replies) h all r = absurd r
  over_run old new (command ∷ commands) [] h all r = absurd r
  over_run old new (command ∷ commands) (reply ∷ replies) h all r =
      goes.through old r.0 new (steps old r.0 command reply h all.0 r.1)
      (over_run r.0 new commands replies (keeps old r.0 command reply h r.1) all.1 r.2)
