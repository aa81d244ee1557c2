-- Runs of commands by themselves as whole runs, where no day is automatic.
use Rattle.std.proofs.Common.{◌≡◌, Bool, true, false, not, ◌&&◌, List, [], ◌∷◌, map, refl, sym, subst}
use Rattle.std.proofs.lemmas.Bool.{and_parts}
use Rattle.rtgs_book.specs.declared.book.Book.{Book}
use Rattle.rtgs_book.specs.declared.command.Command.{Command}
use Rattle.rtgs_book.specs.Books.{is_automatic}
use Rattle.rtgs_book.specs.Outcome.{OwnReply, alone, is_done}
use Rattle.rtgs_book.specs.Run.{Run}
use Rattle.rtgs_book.specs.Step.{OwnStep, Ends, Step, may_free}

-- the commands by themselves one after another, each with its reply
abbrev pub OwnRun : Book → List Command → List OwnReply → Book → Type 0
OwnRun old [] [] new = new ≡ old
OwnRun old (command ∷ commands) (reply ∷ replies) new = (mid : Book) × OwnStep old command reply mid
    × OwnRun mid commands replies new
OwnRun old [] (reply ∷ replies) new = ⊥
OwnRun old (command ∷ commands) [] new = ⊥

-- after none of them the day is automatic
abbrev pub is_plain : (old new : Book) (commands : List Command) (replies : List OwnReply)
    → OwnRun old commands replies new → Bool
is_plain old new [] [] run = true
is_plain old new (command ∷ commands) (reply ∷ replies) run =
    not (is_automatic run.0.day) && is_plain run.0 new commands replies run.2
is_plain old new [] (reply ∷ replies) run = true
is_plain old new (command ∷ commands) [] run = true

plain : (may done automatic : Bool) → not automatic ≡ true → (may && done && automatic) ≡ false
plain true true false e = refl
plain true true true e = sym e
plain true false automatic e = refl
plain false done automatic e = refl

plain_step : (old new : Book) (command : Command) (reply : OwnReply) → not (is_automatic new.day) ≡ true
    → OwnStep old command reply new → Step old command (alone reply) new
plain_step old new command reply e s = (
  record { reply = reply; book = new },
  s,
  subst (λ b. Ends b (record { reply = reply; book = new }) (alone reply) new)
      (sym (plain (may_free command) (is_done reply) (is_automatic new.day) e)) (refl, refl),
)

pub as_whole_run : (old new : Book) (commands : List Command) (replies : List OwnReply)
    → (run : OwnRun old commands replies new) → is_plain old new commands replies run ≡ true
    → Run old commands (map alone replies) new
as_whole_run old new [] [] run e = run
as_whole_run old new [] (reply ∷ replies) run e = absurd run
as_whole_run old new (command ∷ commands) [] run e = absurd run
as_whole_run old new (command ∷ commands) (reply ∷ replies) run e =
    let both = and_parts (not (is_automatic run.0.day)) (is_plain run.0 new commands replies run.2) e in (
      run.0,
      plain_step old run.0 command reply both.0 run.1,
      as_whole_run run.0 new commands replies run.2 both.1,
    )
