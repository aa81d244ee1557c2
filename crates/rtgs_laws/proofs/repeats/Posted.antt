-- Over a list of commands all balances together move by what was posted.
use Rattle.std.proofs.Common.{◌≡◌, ◌+ℤ◌, List, [], ◌∷◌, ap, arith}
use Rattle.std.proofs.lemmas.Int.{ints}
use Rattle.rtgs_book.specs.declared.book.Book.{Book}
use Rattle.rtgs_book.specs.declared.command.Command.{Command}
use Rattle.rtgs_book.specs.Balance.{total}
use Rattle.rtgs_book.specs.Laws.{posted}
use Rattle.rtgs_book.specs.Outcome.{Reply}
use Rattle.rtgs_book.specs.Run.{Run}
use Rattle.rtgs_book.specs.Soundness.{IsSound}
use Rattle.rtgs_book.specs.Step.{Step}
use Rattle.rtgs_laws.specs.repeats.Lasting.{posted_by}
use Rattle.rtgs_laws.proofs.repeats.Runs.{StepKeepsSoundness}

abbrev pub TotalMovesByPostings : Type 0
TotalMovesByPostings = (old new : Book) (command : Command) (reply : Reply) → IsSound old → Step old command reply new
    → total new ≡ total old +ℤ posted command reply

pub moved_by : StepKeepsSoundness → TotalMovesByPostings → (old new : Book) (commands : List Command)
    (replies : List Reply) → IsSound old → Run old commands replies new
    → total new ≡ total old +ℤ posted_by commands replies
moved_by sounds moves old new [] [] h r = let same = ap total r in omega (arith, ints)
moved_by sounds moves old new [] (reply ∷ replies) h r = absurd r
moved_by sounds moves old new (command ∷ commands) [] h r = absurd r
moved_by sounds moves old new (command ∷ commands) (reply ∷ replies) h r =
    let here = moves old r.0 command reply h r.1 in
    let rest = moved_by sounds moves r.0 new commands replies (sounds old r.0 command reply h r.1) r.2 in
    omega (arith, ints)
