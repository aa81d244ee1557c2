-- What goes through a book in between, and holds of each command, holds of a list of commands.
use Rattle.std.proofs.Common.{List, [], ◌∷◌, sym, subst}
use Rattle.rtgs_book.specs.declared.book.Book.{Book}
use Rattle.rtgs_book.specs.declared.command.Command.{Command}
use Rattle.rtgs_book.specs.Outcome.{Reply}
use Rattle.rtgs_book.specs.Run.{Run}
use Rattle.rtgs_book.specs.Soundness.{IsSound}
use Rattle.rtgs_book.specs.Step.{Step}
use Rattle.rtgs_laws.specs.Through.{GoesThrough}
use Rattle.rtgs_laws.proofs.Lifting.{StepKeepsSoundness}

module _ (keeps : StepKeepsSoundness) (Relation : Book → Book → Type 0) (goes : GoesThrough Relation)
    (steps : (old new : Book) (command : Command) (reply : Reply) → IsSound old → Step old command reply new
    → Relation old new) where
  pub over_run : (old new : Book) (commands : List Command) (replies : List Reply) → IsSound old
      → Run old commands replies new → Relation old new
  over_run old new [] [] h r = subst (Relation old) (sym r) (goes.itself old)
  over_run old new [] (reply ∷ replies) h r = absurd r
  over_run old new (command ∷ commands) [] h r = absurd r
  over_run old new (command ∷ commands) (reply ∷ replies) h r =
      goes.through old r.0 new (steps old r.0 command reply h r.1)
      (over_run r.0 new commands replies (keeps old r.0 command reply h r.1) r.2)

-- that a sound book stays sound goes through too
pub run_sound : StepKeepsSoundness → (old new : Book) (commands : List Command) (replies : List Reply) → IsSound old
    → Run old commands replies new → IsSound new
run_sound keeps old new commands replies h r = over_run keeps (λ one other. IsSound one → IsSound other)
    (record { itself = λ book sound. sound; through = λ one mid other f g sound. g (f sound) })
    (λ one other command reply _ s sound. keeps one other command reply sound s) old new commands replies h r h
