-- A list of commands has one run.
use Rattle.std.proofs.Common.{◌≡◌, ◌∙◌, List, [], ◌∷◌, refl, sym, ap, subst}
use Rattle.rtgs_book.specs.declared.book.Book.{Book}
use Rattle.rtgs_book.specs.declared.command.Command.{Command}
use Rattle.rtgs_book.specs.Outcome.{Reply}
use Rattle.rtgs_book.specs.Run.{Run}
use Rattle.rtgs_book.specs.Soundness.{IsSound}
use Rattle.rtgs_book.specs.Step.{Step}
use Rattle.rtgs_desk.specs.Holding.{HasInMemory}
use Rattle.rtgs_desk.specs.Seen.{Seen}

abbrev pub StepExists : Type 0
StepExists = (book : Book) (command : Command) → IsSound book
    → (reply : Reply) × (new : Book) × Step book command reply new

abbrev pub StepKeepsSoundness : Type 0
StepKeepsSoundness = (old new : Book) (command : Command) (reply : Reply) → IsSound old → Step old command reply new
    → IsSound new

abbrev pub StepIsDetermined : Type 0
StepIsDetermined = (old new last : Book) (command : Command) (reply other : Reply) → Step old command reply new
    → Step old command other last → (reply ≡ other) × (new ≡ last)

pub some_run : StepExists → StepKeepsSoundness → (start : Book) (commands : List Command) → IsSound start
    → (replies : List Reply) × (last : Book) × Run start commands replies last × IsSound last
some_run exists keeps start [] sound = ([], start, refl, sound)
some_run exists keeps start (command ∷ commands) sound =
    let s = exists start command sound in
    let rest = some_run exists keeps s.1 commands (keeps start s.1 command s.0 sound s.2) in
    (s.0 ∷ rest.0, rest.1, (s.1, s.2, rest.2), rest.3)

pub one_run : StepIsDetermined → (start last end : Book) (commands : List Command) (replies others : List Reply)
    → Run start commands replies last → Run start commands others end → (replies ≡ others) × (last ≡ end)
one_run same start last end [] [] [] r k = (refl, r ∙ sym k)
one_run same start last end [] [] (other ∷ others) r k = absurd k
one_run same start last end [] (reply ∷ replies) others r k = absurd r
one_run same start last end (command ∷ commands) [] others r k = absurd r
one_run same start last end (command ∷ commands) (reply ∷ replies) [] r k = absurd k
one_run same start last end (command ∷ commands) (reply ∷ replies) (other ∷ others) r k =
    let d = same start r.0 k.0 command reply other r.1 k.1 in
    let rest = one_run same k.0 last end commands replies others
    (subst (λ mid. Run mid commands replies last) d.1 r.2) k.2 in
    (ap (λ x. x ∷ replies) d.0 ∙ ap (λ xs. other ∷ xs) rest.0, rest.1)

-- what is in memory is of a sound book
pub in_memory_is_sound : {K : Type 0} (desk : Seen K) (book : Book) → HasInMemory desk book → IsSound book
unfolding HasInMemory
in_memory_is_sound desk book memory = memory.sound
