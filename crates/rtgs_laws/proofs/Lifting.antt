-- From what commands by themselves leave to what whole steps leave: where a resolution follows, it is one more command.
use Rattle.std.proofs.Common.{◌≡◌, ◌+ℤ◌, Bool, true, false, Ok, Err, Option, None, refl}
use Rattle.std.proofs.Common.{sym, ap, ◌∙◌, subst, arith}
use Rattle.std.proofs.lemmas.Int.{ints}
use Rattle.rtgs_book.specs.declared.command.Command.TheVariants.{Resolve}
use Rattle.rtgs_book.specs.declared.book.Book.{Book}
use Rattle.rtgs_book.specs.declared.command.Command.{Command}
use Rattle.rtgs_book.specs.Balance.{total}
use Rattle.rtgs_book.specs.Laws.{posted, posted_by_itself, CommandFits}
use Rattle.rtgs_book.specs.declared.answer.Resolution.{Resolution}
use Rattle.rtgs_book.specs.Outcome.{OwnReply, Outcome, Reply, own_of, resolution_of, with_resolution}
use Rattle.rtgs_book.specs.Ranges.{Fits}
use Rattle.rtgs_book.specs.Soundness.{FloorsHold, IsSound}
use Rattle.rtgs_book.specs.Step.{OwnStep, Ends, Step, is_followed}
use Rattle.rtgs_laws.specs.Through.{GoesThrough}
use Rattle.rtgs_laws.proofs.Sound.{KeepsSoundness}
use Rattle.rtgs_laws.proofs.Steps.{GreatestExists, GreatestIsUnique, gives_one, step_determined, step_there}

-- ---- a fact about the old book and the new one

module _ (sounds : KeepsSoundness) (R : Book → Book → Type 0)
    (by_itself : (old new : Book) (command : Command) (reply : OwnReply) → IsSound old → OwnStep old command reply new
    → R old new)
    (goes : GoesThrough R) where
  ends_so : (b : Bool) (old new : Book) (own : Outcome) (reply : Reply) → IsSound own.book → R old own.book
      → Ends b own reply new → R old new
  ends_so false old new own reply sound r e = subst (R old) (sym e.1) r
  ends_so true old new own reply sound r e =
      goes.through old own.book new r (by_itself own.book new Resolve e.0 sound e.1)

  pub lifted : (old new : Book) (command : Command) (reply : Reply) → IsSound old → Step old command reply new
      → R old new
  lifted old new command reply h s =
      ends_so (is_followed command s.0) old new s.0 reply (sounds old s.0.book command s.0.reply h s.1)
      (by_itself old s.0.book command s.0.reply h s.1) s.2

-- ---- soundness

abbrev pub StepKeepsSoundness : Type 0
StepKeepsSoundness = (old new : Book) (command : Command) (reply : Reply) → IsSound old → Step old command reply new
    → IsSound new

ends_sound : KeepsSoundness → (b : Bool) (new : Book) (own : Outcome) (reply : Reply) → IsSound own.book
    → Ends b own reply new → IsSound new
ends_sound sounds false new own reply sound e = subst IsSound (sym e.1) sound
ends_sound sounds true new own reply sound e = sounds own.book new Resolve e.0 sound e.1

pub whole_step_sound : KeepsSoundness → (old new : Book) (command : Command) (reply : Reply) → IsSound old
    → Step old command reply new → IsSound new
whole_step_sound sounds old new command reply h s =
    ends_sound sounds (is_followed command s.0) new s.0 reply (sounds old s.0.book command s.0.reply h s.1) s.2

-- ---- one reply and one book

ends_one : GreatestIsUnique → (b : Bool) (own : Outcome) (new last : Book) (reply other : Reply) → Ends b own reply new
    → Ends b own other last → (reply ≡ other) × (new ≡ last)
ends_one unique false own new last reply other h k = (h.0 ∙ sym k.0, h.1 ∙ sym k.1)
ends_one unique true own new last reply other h k =
    let same = step_determined unique own.book new last Resolve h.0 k.0 h.1 k.1 in (
      h.2 ∙ ap (λ settled. with_resolution own.reply (resolution_of settled)) same.0 ∙ sym k.2,
      same.1,
    )

pub whole_step_determined : GreatestIsUnique → (old new last : Book) (command : Command) (reply other : Reply)
    → Step old command reply new → Step old command other last → (reply ≡ other) × (new ≡ last)
whole_step_determined unique old new last command reply other h k =
    let same = gives_one unique old command h.0 k.0 h.1 k.1 in
    ends_one unique (is_followed command h.0) h.0 new last reply other h.2
    (subst (λ own. Ends (is_followed command own) own other last) (sym same) k.2)

ends_there : GreatestExists → (b : Bool) (own : Outcome) → FloorsHold own.book
    → (reply : Reply) × (new : Book) × Ends b own reply new
ends_there exists false own holds = (with_resolution own.reply None, own.book, (refl, refl))
ends_there exists true own holds =
    let settled = step_there exists own.book Resolve holds in (
      with_resolution own.reply (resolution_of settled.0),
      settled.1,
      (settled.0, settled.2, refl),
    )

pub whole_step_there : GreatestExists → KeepsSoundness → (book : Book) (command : Command) → IsSound book
    → (reply : Reply) × (new : Book) × Step book command reply new
whole_step_there exists sounds book command h =
    let own = step_there exists book command h.floors in
    let outcome : Outcome = record { reply = own.0; book = own.1 } in
    let end = ends_there exists (is_followed command outcome) outcome
    (sounds book own.1 command own.0 h own.2).floors in
    (end.0, end.1, (outcome, own.2, end.2))

-- ---- money

own_again : (reply : OwnReply) (auto : Option Resolution) → own_of (with_resolution reply auto) ≡ reply
own_again (Ok own) auto = refl
own_again (Err refusal) auto = refl

abbrev pub MovesByPostings : Type 0
MovesByPostings = (old new : Book) (command : Command) (reply : OwnReply) → IsSound old → OwnStep old command reply new
    → total new ≡ total old +ℤ posted_by_itself command reply

ends_moved : MovesByPostings → (b : Bool) (old new : Book) (command : Command) (own : Outcome) (reply : Reply)
    → IsSound own.book → total own.book ≡ total old +ℤ posted_by_itself command own.reply → Ends b own reply new
    → total new ≡ total old +ℤ posted command reply
ends_moved moves false old new command own reply sound e end =
    ap total end.1 ∙ e ∙ ap (λ r. total old +ℤ posted_by_itself command r)
    (sym (own_again own.reply None) ∙ sym (ap own_of end.0))
ends_moved moves true old new command own reply sound e end =
    let more = moves own.book new Resolve end.0 sound end.1 in
    let same : total new ≡ total own.book = more ∙ omega (arith, ints) in
    same ∙ e ∙ ap (λ r. total old +ℤ posted_by_itself command r)
    (sym (own_again own.reply (resolution_of end.0)) ∙ sym (ap own_of end.2))

pub whole_step_moves : MovesByPostings → KeepsSoundness → (old new : Book) (command : Command) (reply : Reply)
    → IsSound old → Step old command reply new → total new ≡ total old +ℤ posted command reply
whole_step_moves moves sounds old new command reply h s =
    ends_moved moves (is_followed command s.0) old new command s.0 reply
    (sounds old s.0.book command s.0.reply h s.1) (moves old s.0.book command s.0.reply h s.1) s.2

-- ---- ranges

abbrev pub KeepsRanges : Type 0
KeepsRanges = (old new : Book) (command : Command) (reply : OwnReply) → CommandFits command → Fits old
    → OwnStep old command reply new → Fits new

ends_fit : KeepsRanges → (b : Bool) (new : Book) (own : Outcome) (reply : Reply) → Fits own.book → Ends b own reply new
    → Fits new
ends_fit keeps false new own reply fits e = subst Fits (sym e.1) fits
ends_fit keeps true new own reply fits e = keeps own.book new Resolve e.0 tt fits e.1

pub whole_step_fits : KeepsRanges → (old new : Book) (command : Command) (reply : Reply) → CommandFits command
    → Fits old → Step old command reply new → Fits new
whole_step_fits keeps old new command reply fits h s =
    ends_fit keeps (is_followed command s.0) new s.0 reply (keeps old s.0.book command s.0.reply fits h s.1) s.2
