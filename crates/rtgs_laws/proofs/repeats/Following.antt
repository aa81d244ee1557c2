-- A whole step, and the command by itself.
use Rattle.std.proofs.Common.{◌≡◌, Bool, true, false, ◌&&◌, Ok, Err, Option, None, refl, sym, ap, ◌∙◌, subst}
use Rattle.std.proofs.Common.{true≢false}
use Rattle.rtgs_book.specs.declared.book.Book.{Book}
use Rattle.rtgs_book.specs.declared.command.Command.{Command}
use Rattle.rtgs_book.specs.declared.answer.Resolution.{Resolution}
use Rattle.rtgs_book.specs.Books.{is_automatic}
use Rattle.rtgs_book.specs.Outcome.{OwnReply, Outcome, Reply, alone, own_of, is_done, resolution_of, with_resolution}
use Rattle.rtgs_book.specs.Run.{is_accepted}
use Rattle.rtgs_book.specs.Step.{OwnStep, Ends, Step, is_followed, may_free}
use Rattle.rtgs_laws.specs.repeats.Repeats.{own_number, answered_number}

-- ---- the own reply

own_again : (reply : OwnReply) (auto : Option Resolution) → own_of (with_resolution reply auto) ≡ reply
own_again (Ok own) auto = refl
own_again (Err refusal) auto = refl

ends_own : (b : Bool) (new : Book) (own : Outcome) (reply : Reply) → Ends b own reply new → own_of reply ≡ own.reply
ends_own false new own reply e = ap own_of e.0 ∙ own_again own.reply None
ends_own true new own reply e = ap own_of e.2 ∙ own_again own.reply (resolution_of e.0)

pub own_replied : (old new : Book) (command : Command) (reply : Reply) → (s : Step old command reply new)
    → own_of reply ≡ s.0.reply
own_replied old new command reply s = ends_own (is_followed command s.0) new s.0 reply s.2

pub own_accepted : (old new : Book) (command : Command) (reply : Reply) → (s : Step old command reply new)
    → is_accepted reply ≡ true → is_done s.0.reply ≡ true
own_accepted old new command reply s e = ap is_done (sym (own_replied old new command reply s)) ∙ e

pub own_numbered : (old new : Book) (command : Command) (reply : Reply) → (s : Step old command reply new)
    → answered_number reply ≡ own_number s.0.reply
own_numbered old new command reply s = ap own_number (own_replied old new command reply s)

-- ---- commands that nothing follows

pub never : (a b c : Bool) → b ≡ false → (a && b && c) ≡ false
never true b c e = ap (λ x. x && c) e
never false b c e = refl

pub quietly : (book : Book) (command : Command) (reply : OwnReply) → is_done reply ≡ false
    → OwnStep book command reply book → Step book command (alone reply) book
quietly book command reply quiet s = (
  record { reply = reply; book = book },
  s,
  subst (λ b. Ends b (record { reply = reply; book = book }) (alone reply) book)
      (sym (never (may_free command) (is_done reply) (is_automatic book.day) quiet)) (refl, refl),
)

pub alone_step : (old new : Book) (command : Command) (reply : OwnReply) → may_free command ≡ false
    → OwnStep old command reply new → Step old command (alone reply) new
alone_step old new command reply still s = (
  record { reply = reply; book = new },
  s,
  subst (λ b. Ends b (record { reply = reply; book = new }) (alone reply) new)
      (sym (ap (λ x. x && is_done reply && is_automatic new.day) still)) (refl, refl),
)

-- of such a command the step is its own
ends_alone : (b : Bool) → b ≡ false → (new : Book) (own : Outcome) (reply : Reply) → Ends b own reply new
    → (new ≡ own.book) × (reply ≡ alone own.reply)
ends_alone true f new own reply e = absurd (true≢false f)
ends_alone false f new own reply e = (e.1, e.0)

pub not_followed : (old new : Book) (command : Command) (reply : Reply) → (s : Step old command reply new)
    → is_followed command s.0 ≡ false → (new ≡ s.0.book) × (reply ≡ alone s.0.reply)
not_followed old new command reply s still = ends_alone (is_followed command s.0) still new s.0 reply s.2

pub own_step : (old new : Book) (command : Command) (reply : Reply) → may_free command ≡ false
    → (s : Step old command reply new) → OwnStep old command (own_of reply) new
own_step old new command reply still s =
    let k = not_followed old new command reply s
    (ap (λ x. x && is_done s.0.reply && is_automatic s.0.book.day) still) in
    subst (λ r. OwnStep old command r new) (sym (own_replied old new command reply s))
    (subst (OwnStep old command s.0.reply) (sym k.0) s.1)

-- what did not act leaves the book
abbrev pub IdleLeavesTheBook : Type 0
IdleLeavesTheBook = (old new : Book) (command : Command) (reply : OwnReply) → OwnStep old command reply new
    → is_done reply ≡ false → new ≡ old

pub idle : IdleLeavesTheBook → (old new : Book) (command : Command) (reply : Reply) → (s : Step old command reply new)
    → is_done s.0.reply ≡ false → new ≡ old
idle leaves old new command reply s quiet =
    (not_followed old new command reply s (never (may_free command) (is_done s.0.reply)
    (is_automatic s.0.book.day) quiet)).0 ∙ leaves old s.0.book command s.0.reply s.1 quiet
