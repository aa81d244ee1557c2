-- Commands by themselves keep a book sound.
use Rattle.std.proofs.Common.{◌≡◌, sym, ap, subst}
use Rattle.rtgs_book.specs.declared.command.Command.TheVariants.{Add, SetCredit, Post, OpenDay, Order as PlaceOrder}
use Rattle.rtgs_book.specs.declared.command.Command.TheVariants.{Withdraw, Resolve, CutOff, CloseDay}
use Rattle.rtgs_book.specs.declared.book.Book.{Book}
use Rattle.rtgs_book.specs.declared.command.Command.{Command}
use Rattle.rtgs_book.specs.Outcome.{OwnReply, Outcome}
use Rattle.rtgs_book.specs.Step.{OwnStep}
use Rattle.rtgs_book.specs.Soundness.{IsSound}
use Rattle.rtgs_laws.proofs.BookLaws.{BookLaws}
use Rattle.rtgs_laws.proofs.SoundAdd.{sound_add}
use Rattle.rtgs_laws.proofs.SoundCommands.{sound_order, sound_resolve}
use Rattle.rtgs_laws.proofs.SoundCredit.{sound_set_credit}
use Rattle.rtgs_laws.proofs.SoundDays.{sound_cut_off}
use Rattle.rtgs_laws.proofs.SoundOpening.{sound_open_day}
use Rattle.rtgs_laws.proofs.SoundPost.{sound_post}
use Rattle.rtgs_laws.proofs.SoundStates.{sound_withdraw, sound_close_day}

ends : (outcome : Outcome) (reply : OwnReply) (new : Book) → record { reply = reply; book = new } ≡ outcome
    → IsSound outcome.book → IsSound new
ends outcome reply new e h = subst IsSound (sym (ap (λ (o : Outcome). o.book) e)) h

pub step_sound : BookLaws → (old new : Book) (command : Command) (reply : OwnReply) → IsSound old
    → OwnStep old command reply new → IsSound new
step_sound laws old new (Add code full key) reply h e = ends _ reply new e (sound_add laws old code full key h)
step_sound laws old new (SetCredit code credit) reply h e = ends _ reply new e (sound_set_credit old code credit h)
step_sound laws old new (Post code reference cents) reply h e =
    ends _ reply new e (sound_post laws old code reference cents h)
step_sound laws old new (OpenDay new_day) reply h e =
    ends _ reply new e (sound_open_day laws old new_day h)
step_sound laws old new (PlaceOrder sender new_order) reply h e =
    ends _ reply new e (sound_order laws old sender new_order h)
step_sound laws old new (Withdraw sender reference) reply h e =
    ends _ reply new e (sound_withdraw laws old sender reference h)
step_sound laws old new Resolve reply h e = ends _ reply new e.2 (sound_resolve laws old e.0 h e.1.feasible)
step_sound laws old new (CutOff date) reply h e = ends _ reply new e (sound_cut_off old date h)
step_sound laws old new (CloseDay date) reply h e = ends _ reply new e.2 (sound_close_day laws old e.0 date h)

-- each command by itself keeps a sound book sound
abbrev pub KeepsSoundness : Type 0
KeepsSoundness = (old new : Book) (command : Command) (reply : OwnReply) → IsSound old → OwnStep old command reply new
    → IsSound new
