-- A request that comes again is answered as a repeat.
use Rattle.std.proofs.Common.{◌≡◌, true, ℕ, List, Ok, Err, refl, ap, subst, ◌∙◌}
use Rattle.std.specs.Prelude.{◌≢◌}
use Rattle.rtgs_book.specs.declared.book.Book.{Book}
use Rattle.rtgs_book.specs.declared.command.Command.{Command}
use Rattle.rtgs_book.specs.declared.command.Command.TheVariants as command
use Rattle.rtgs_book.specs.Outcome.{Reply}
use Rattle.rtgs_book.specs.Run.{Run, is_accepted}
use Rattle.rtgs_book.specs.Soundness.{IsSound}
use Rattle.rtgs_book.specs.Step.{Step}
use Rattle.rtgs_desk.specs.Holding.{Holds}
use Rattle.rtgs_desk.specs.Seen.{Seen}
use Rattle.rtgs_http_bodies.specs.replies.Messages.{Message}
use Rattle.rtgs_http_requests.specs.Access.{IsCommandOf}
use Rattle.rtgs_http_requests.specs.Exchange.{AsksFor}
use Rattle.rtgs_http_requests.specs.Meaning.{Answer}
use Rattle.rtgs_http_requests.specs.Same.{AreTheSame}
use Rattle.rtgs_http_requests.specs.declared.asked.Asked.TheVariants.{Submit, Batch, Read}
use Rattle.rtgs_keeper.specs.declared.keeper.Keeper.{Ghosts}
use Rattle.rtgs_ledger.specs.Keys.{code_under}
use Rattle.rtgs_laws.specs.repeats.Repeats.{acts_once, answered_number, IsRepeat}
use Rattle.rtgs_http_server.specs.reply_laws.Again.{IsRepeatedBy}
use Rattle.rtgs_http_server.specs.exchange.Handling.{ComesTo, Submits}
use Rattle.rtgs_http_server.specs.exchange.Exchange.{Handles}
use Rattle.rtgs_http_server.specs.reply_laws.Own.{IsSentBy}
use Rattle.rtgs_http_server.specs.exchange.ReplyMessages.{reply_message}
use Rattle.rtgs_http_server.proofs.reply_laws.Callers.{KeysOnce, asked_alike}
use Rattle.rtgs_http_server.proofs.reply_laws.Determined.{AsksOnce, StepsOnce, sent_is, judged, wanting}
use Rattle.rtgs_http_server.proofs.reply_laws.OwnReplies.{AskOwn, own_asked, same_bearer}

-- what acted once is answered as a repeat
abbrev pub ActsOnce : Type 0
ActsOnce = (old mid new : Book) (command : Command) (reply : Reply) (commands : List Command) (replies : List Reply)
    → IsSound old → acts_once command ≡ true → is_accepted reply ≡ true → Step old command reply mid
    → Run mid commands replies new
    → (again : Reply) × IsRepeat new command (answered_number reply) again × Step new command again new

-- a participant's own commands act once
own_acts_once : (code : List ℕ) (command : Command) → IsCommandOf code command → acts_once command ≡ true
own_acts_once code (command.Order sender new_order) own = refl
own_acts_once code (command.Withdraw sender reference) own = refl
own_acts_once code (command.Add other name key) own = absurd own
own_acts_once code (command.SetCredit other credit) own = absurd own
own_acts_once code (command.Post other reference cents) own = absurd own
own_acts_once code (command.OpenDay new_day) own = absurd own
own_acts_once code command.Resolve own = absurd own
own_acts_once code (command.CutOff date) own = absurd own
own_acts_once code (command.CloseDay date) own = absurd own

-- what comes of an answer that is this command
submits : {K : Type 0} (g : Ghosts K) (old : Book) (answer : Answer) (command : Command) (desk : Seen K)
    (sent : Message) → AreTheSame answer (Ok (Submit command)) → ComesTo g old answer desk sent
    → Submits g old command desk sent
submits g old (Err fault) command desk sent same comes = absurd same
submits g old (Ok (Submit other)) command desk sent same comes =
    subst (λ (c : Command). Submits g old c desk sent) same comes
submits g old (Ok (Batch sender rows)) command desk sent same comes = absurd same
submits g old (Ok (Read reading)) command desk sent same comes = absurd same

-- a command that this book answers so, and that leaves it as it is, is answered as a repeat
answered_as_repeat : {K : Type 0} (g : Ghosts K) (book : Book) (command : Command) (number : ℕ) (again : Reply)
    (desk : Seen K)
    (sent : Message) → StepsOnce → IsRepeat book command number again → Step book command again book
    → Submits g book command desk sent → sent.status ≢ 503 → IsRepeatedBy g book command number desk sent
answered_as_repeat g book command number again desk sent steps repeats step s done =
    let tells = sent_is (reply_message s.reply) sent done s.sent_or_lost in
    let known = judged s.reply (λ e. done (ap (λ (m : Message). m.status) tells ∙ e)) in
    let once = steps book s.acts.book book command s.reply again (s.acts.judged known) step in
    record {
      reply = again;
      repeats = repeats;
      tells = tells ∙ ap reply_message once.0;
      kept = λ works. subst (λ (b : Book). Holds g desk b) once.1 (s.acts.kept works);
    }

pub answered_again : {K : Type 0} (g : Ghosts K) → KeysOnce → AsksOnce → AskOwn → StepsOnce → ActsOnce
    → (operator input code : List ℕ) (old mid later : Book) (command : Command) (reply : Reply)
    (commands : List Command) (replies : List Reply) (desk : Seen K) (sent : Message) → IsSound old
    → IsSentBy operator old code input → IsSentBy operator later code input
    → AsksFor operator (code_under old) input (Ok (Submit command)) → is_accepted reply ≡ true
    → Step old command reply mid → Run mid commands replies later → Handles g operator later input desk sent
    → sent.status ≢ 503 → IsRepeatedBy g later command (answered_number reply) desk sent
answered_again g laws once own steps acts operator input code old mid later command reply commands replies desk sent
    sound
    by_old by_later asks accepted step run handles done =
    let alike = same_bearer laws operator input code old later by_old by_later in
    let asked = asked_alike operator input (code_under old) (code_under later) (Ok (Submit command)) alike asks in
    let own_command = own_asked laws own operator input code old (Submit command) by_old asks in
    let same = once operator (code_under later) input handles.answer (Ok (Submit command)) handles.asks asked
    (wanting g later handles.answer desk sent done handles.comes) (λ e. let no : ⊥ = cc in no) in
    let again = acts old mid later command reply commands replies sound (own_acts_once code command own_command)
    accepted step run in
    answered_as_repeat g later command (answered_number reply) again.0 desk sent steps again.1 again.2
    (submits g later handles.answer command desk sent same handles.comes) done
