-- A book, the operator's digest and an input have one reply.
use Rattle.std.proofs.Common.{◌≡◌, true, ℕ, List, [], ◌∷◌, map, length, take, Option, Some, None, Ok, Err}
use Rattle.std.proofs.Common.{refl, sym, ap, subst, ◌∙◌, inl, inr}
use Rattle.std.specs.Prelude.{◌≢◌}
use Rattle.rtgs_book.specs.Choice.{Choice, IsGreatest}
use Rattle.rtgs_book.specs.declared.book.Book.{Book}
use Rattle.rtgs_book.specs.declared.command.Command.{Command}
use Rattle.rtgs_book.specs.declared.refusal.Refusal.{Refusal}
use Rattle.rtgs_book.specs.declared.refusal.Refusal.TheVariants as refusal
use Rattle.rtgs_book.specs.Outcome.{Reply, own_of}
use Rattle.rtgs_book.specs.Run.{Run}
use Rattle.rtgs_book.specs.Session.{is_judged}
use Rattle.rtgs_book.specs.Step.{Step}
use Rattle.rtgs_keeper.specs.declared.keeper.Keeper.{Ghosts}
use Rattle.rtgs_ledger.specs.Keys.{code_under}
use Rattle.rtgs_desk.specs.Holding.{Holds}
use Rattle.rtgs_desk.specs.Seen.{Seen}
use Rattle.rtgs_desk.specs.batches.Batches.{orders_of, reply_of, replies_of, StopsAfter}
use Rattle.rtgs_order_files.specs.Results.{results_text}
use Rattle.rtgs_order_files.specs.declared.batch_result.RowReply.{RowReply}
use Rattle.rtgs_order_files.specs.declared.batch_result.RowReply.TheVariants.{Settled, Queued, Held, Repeated, Refused}
use Rattle.rtgs_book.specs.declared.new_order.NewOrder.{NewOrder}
use Rattle.rtgs_http_bodies.specs.Statuses.{batch_status}
use Rattle.rtgs_http_bodies.specs.replies.Messages.{Message, message}
use Rattle.rtgs_http_bodies.specs.declared.replies.content_type.ContentType.TheVariants.{Csv}
use Rattle.rtgs_http_requests.specs.Callers.{CodeOf}
use Rattle.rtgs_http_requests.specs.Exchange.{AsksFor}
use Rattle.rtgs_http_requests.specs.Meaning.{Answer}
use Rattle.rtgs_http_requests.specs.Same.{AreTheSame}
use Rattle.rtgs_http_requests.specs.declared.asked.Asked.TheVariants.{Submit, Batch, Read}
use Rattle.rtgs_http_requests.specs.declared.http_fault.HttpFault.{HttpFault}
use Rattle.rtgs_http_requests.specs.declared.http_fault.HttpFault.TheVariants.{OutOfMemory}
use Rattle.rtgs_book.specs.declared.reading.Reading.{Reading}
use Rattle.rtgs_http_server.specs.reply_laws.Alike.{EndAlike}
use Rattle.rtgs_http_server.specs.exchange.Handling.{ComesTo, Submits, SubmitsAll, Reads, IsReadOf}
use Rattle.rtgs_http_server.specs.exchange.Exchange.{Handles}
use Rattle.rtgs_http_server.specs.exchange.ReplyMessages.{IsSaid, IsSentOrLost, fault_message, reply_message}
use Rattle.rtgs_http_server.specs.exchange.ReplyMessages.{reading_message}

-- a step has one outcome
abbrev pub StepsOnce : Type 0
StepsOnce = (old new last : Book) (command : Command) (reply other : Reply) → Step old command reply new
    → Step old command other last → (reply ≡ other) × (new ≡ last)

-- a request has one answer
abbrev pub AsksOnce : Type 0
AsksOnce = (operator : List ℕ) (code_of : CodeOf) (input : List ℕ) (one other : Answer)
    → AsksFor operator code_of input one → AsksFor operator code_of input other
    → one ≢ Err OutOfMemory → other ≢ Err OutOfMemory → AreTheSame one other

-- a book has one greatest choice
abbrev pub ChoosesOnce : Type 0
ChoosesOnce = (book : Book) (one other : Choice) → IsGreatest book one → IsGreatest book other → one ≡ other

run_once : StepsOnce → (old new last : Book) (commands : List Command) (replies others : List Reply)
    → Run old commands replies new → Run old commands others last → (replies ≡ others) × (new ≡ last)
run_once steps old new last [] [] [] one other = (refl, one ∙ sym other)
run_once steps old new last [] (r ∷ replies) others one other = absurd one
run_once steps old new last [] [] (r ∷ others) one other = absurd other
run_once steps old new last (c ∷ commands) [] others one other = absurd one
run_once steps old new last (c ∷ commands) (r ∷ replies) [] one other = absurd other
run_once steps old new last (c ∷ commands) (r ∷ replies) (o ∷ others) one other =
    let first = steps old one.0 other.0 c r o one.1 other.1 in
    let rest = run_once steps one.0 new last commands replies others one.2
    (subst (λ (b : Book). Run b commands others last) (sym first.1) other.2) in
    let same = first.0 in let later = rest.0 in (cc, rest.1)

-- what is said or sent with another status than 503 is what was to be said
said : (wanted sent : Message) → sent.status ≢ 503 → IsSaid wanted sent → sent ≡ wanted
said wanted sent done (inl e) = e
said wanted sent done (inr e) = absurd (done (ap (λ (m : Message). m.status) e))

pub sent_is : (wanted sent : Message) → sent.status ≢ 503 → IsSentOrLost wanted sent → sent ≡ wanted
sent_is wanted sent done (inl e) = e
sent_is wanted sent done (inr e) = absurd (done (ap (λ (m : Message). m.status) e))

-- a reply that is sent with another status is judged
pub judged : (reply : Reply) → (reply_message reply).status ≢ 503 → is_judged reply ≡ true
judged (Ok answer) done = refl
judged (Err refusal.UnknownParticipant) done = refl
judged (Err refusal.UnknownReceiver) done = refl
judged (Err refusal.SameParty) done = refl
judged (Err refusal.ReferenceUsed) done = refl
judged (Err refusal.NotOpen) done = refl
judged (Err refusal.NoCover) done = refl
judged (Err refusal.QueueFull) done = refl
judged (Err refusal.NumbersUsedUp) done = refl
judged (Err refusal.UnknownOrder) done = refl
judged (Err refusal.CodeTaken) done = refl
judged (Err refusal.KeyTaken) done = refl
judged (Err refusal.TooManyParticipants) done = refl
judged (Err refusal.TotalTooLarge) done = refl
judged (Err refusal.WrongPhase) done = refl
judged (Err refusal.WrongDate) done = refl
judged (Err refusal.Weekend) done = refl
judged (Err refusal.NotQueued) done = refl
judged (Err refusal.Resolvable) done = refl
judged (Err (refusal.Overdrawn first count)) done = refl
judged (Err refusal.DueNotLater) done = refl
judged (Err refusal.OutOfMemory) done = absurd (done refl)
judged (Err refusal.StoreFault) done = absurd (done refl)
judged (Err refusal.Failed) done = absurd (done refl)

submits_alike : {K : Type 0} (g : Ghosts K) (old : Book) (command : Command) (one other : Seen K) (sent again : Message)
    → StepsOnce → sent.status ≢ 503 → again.status ≢ 503 → Submits g old command one sent
    → Submits g old command other again → EndAlike g one other sent again
submits_alike g old command one other sent again steps done ended a b =
    let said = sent_is (reply_message a.reply) sent done a.sent_or_lost in
    let same = sent_is (reply_message b.reply) again ended b.sent_or_lost in
    let first = judged a.reply (λ e. done (ap (λ (m : Message). m.status) said ∙ e)) in
    let second = judged b.reply (λ e. ended (ap (λ (m : Message). m.status) same ∙ e)) in
    let once = steps old a.acts.book b.acts.book command a.reply b.reply (a.acts.judged first)
    (b.acts.judged second) in
    record {
      reply = said ∙ ap reply_message once.0 ∙ sym same;
      book = a.acts.book;
      one_holds = a.acts.kept;
      other_holds = λ works. subst (λ (book : Book). Holds g other book) (sym once.1) (b.acts.kept works);
    }

row_once : (one other : RowReply) → reply_of one ≡ reply_of other → one ≡ other
row_once (Settled n m) (Settled k j) e = cc
row_once (Settled n m) (Queued k j) e = absurd (cc)
row_once (Settled n m) (Held k d) e = absurd (cc)
row_once (Settled n m) (Repeated k j) e = absurd (cc)
row_once (Settled n m) (Refused r) e = absurd (cc)
row_once (Queued n m) (Settled k j) e = absurd (cc)
row_once (Queued n m) (Queued k j) e = cc
row_once (Queued n m) (Held k d) e = absurd (cc)
row_once (Queued n m) (Repeated k j) e = absurd (cc)
row_once (Queued n m) (Refused r) e = absurd (cc)
row_once (Held n d) (Settled k j) e = absurd (cc)
row_once (Held n d) (Queued k j) e = absurd (cc)
row_once (Held n d) (Held k c) e = cc
row_once (Held n d) (Repeated k j) e = absurd (cc)
row_once (Held n d) (Refused r) e = absurd (cc)
row_once (Repeated n m) (Settled k j) e = absurd (cc)
row_once (Repeated n m) (Queued k j) e = absurd (cc)
row_once (Repeated n m) (Held k d) e = absurd (cc)
row_once (Repeated n m) (Repeated k j) e = cc
row_once (Repeated n m) (Refused r) e = absurd (cc)
row_once (Refused s) (Settled k j) e = absurd (cc)
row_once (Refused s) (Queued k j) e = absurd (cc)
row_once (Refused s) (Held k d) e = absurd (cc)
row_once (Refused s) (Repeated k j) e = absurd (cc)
row_once (Refused s) (Refused r) e = cc

rows_once : (one other : List RowReply) → replies_of one ≡ replies_of other → one ≡ other
rows_once [] [] e = refl
rows_once [] (x ∷ xs) e = absurd (cc)
rows_once (x ∷ xs) [] e = absurd (cc)
rows_once (x ∷ xs) (y ∷ ys) e =
    let head : reply_of x ≡ reply_of y = cc in
    let tail : replies_of xs ≡ replies_of ys = cc in
    let first = row_once x y head in let rest = rows_once xs ys tail in cc

-- a batch with another status went to its end
not_stopped : (stopped : Option Refusal) → batch_status stopped ≢ 503 → stopped ≡ None
not_stopped None done = refl
not_stopped (Some refusal) done = absurd (done refl)

batches_alike : {K : Type 0} (g : Ghosts K) (old : Book) (sender : List ℕ) (rows : List NewOrder) (one other : Seen K)
    (sent again : Message) → StepsOnce → sent.status ≢ 503 → again.status ≢ 503 → SubmitsAll g old sender rows one sent
    → SubmitsAll g old sender rows other again → EndAlike g one other sent again
batches_alike g old sender rows one other sent again steps done past a b =
    let said =
    sent_is (message (batch_status a.stopped) Csv (results_text rows a.replies a.stopped)) sent done a.sent_or_lost
    in
    let same =
    sent_is (message (batch_status b.stopped) Csv (results_text rows b.replies b.stopped)) again past b.sent_or_lost
    in
    let none = not_stopped a.stopped (λ e. done (ap (λ (m : Message). m.status) said ∙ e)) in
    let neither = not_stopped b.stopped (λ e. past (ap (λ (m : Message). m.status) same ∙ e)) in
    let long : length a.replies ≡ length rows =
    subst (λ (s : Option Refusal). StopsAfter (length a.replies) (length rows) s) none a.stops in
    let as_long : length b.replies ≡ length rows =
    subst (λ (s : Option Refusal). StopsAfter (length b.replies) (length rows) s) neither b.stops in
    let run = subst (λ (n : ℕ). Run old (orders_of sender (take n rows)) a.acts.given a.acts.last) long
    a.acts.run in
    let again = subst (λ (n : ℕ). Run old (orders_of sender (take n rows)) b.acts.given b.acts.last) as_long
    b.acts.run in
    let once = run_once steps old a.acts.last b.acts.last (orders_of sender (take (length rows) rows))
    a.acts.given b.acts.given run again in
    let replies = rows_once a.replies b.replies (sym a.acts.shown ∙ ap (map own_of) once.0 ∙ b.acts.shown) in
    let stop = none ∙ sym neither in
    let stopped = ap (λ (s : Option Refusal). message (batch_status s) Csv (results_text rows a.replies s)) stop in
    let listed = ap (λ (r : List RowReply). message (batch_status b.stopped) Csv (results_text rows r b.stopped))
    replies in
    record {
      reply = said ∙ stopped ∙ listed ∙ sym same;
      book = a.acts.last;
      one_holds = a.acts.kept;
      other_holds = λ works. subst (λ (book : Book). Holds g other book) (sym once.1) (b.acts.kept works);
    }

pub read_of : {K : Type 0} (g : Ghosts K) (wanted : Message) (desk : Seen K) (sent : Message) → sent.status ≢ 503
    → IsReadOf g wanted desk sent → sent ≡ wanted
read_of g wanted desk sent done (inl (works, h)) = said wanted sent done h
read_of g wanted desk sent done (inr (failed, inl e)) = absurd (done (ap (λ (m : Message). m.status) e))
read_of g wanted desk sent done (inr (failed, inr e)) = absurd (done (ap (λ (m : Message). m.status) e))

readings_alike : {K : Type 0} (g : Ghosts K) (old : Book) (reading : Reading) (one other : Seen K)
    (sent again : Message)
    → ChoosesOnce → sent.status ≢ 503 → again.status ≢ 503 → Reads g old reading one sent
    → Reads g old reading other again → EndAlike g one other sent again
readings_alike g old reading one other sent again once done ended a b = record {
  reply = read_of g (reading_message old a.1 reading) one sent done a.3
      ∙ ap (λ (choice : Choice). reading_message old choice reading) (once old a.1 b.1 a.2 b.2)
      ∙ sym (read_of g (reading_message old b.1 reading) other again ended b.3);
  book = old;
  one_holds = a.0.kept;
  other_holds = b.0.kept;
}

faults_alike : {K : Type 0} (g : Ghosts K) (old : Book) (fault : HttpFault) (one other : Seen K) (sent again : Message)
    → sent.status ≢ 503 → again.status ≢ 503 → ComesTo g old (Err fault) one sent
    → ComesTo g old (Err fault) other again
    → EndAlike g one other sent again
faults_alike g old fault one other sent again done ended a b = record {
  reply = said (fault_message fault) sent done a.2 ∙ sym (said (fault_message fault) again ended b.2);
  book = old;
  one_holds = a.0.kept;
  other_holds = b.0.kept;
}

come_alike : {K : Type 0} (g : Ghosts K) (old : Book) (answer same : Answer) (one other : Seen K) (sent again : Message)
    → ChoosesOnce → StepsOnce → AreTheSame answer same → sent.status ≢ 503 → again.status ≢ 503
    → ComesTo g old answer one sent → ComesTo g old same other again → EndAlike g one other sent again
come_alike g old (Err fault) (Err bad) one other sent again once steps alike done ended a b =
    faults_alike g old fault one other sent again done ended a
    (subst (λ (f : HttpFault). ComesTo g old (Err f) other again) (sym alike) b)
come_alike g old (Err fault) (Ok asked) one other sent again once steps alike done ended a b = absurd alike
come_alike g old (Ok asked) (Err fault) one other sent again once steps alike done ended a b = absurd alike
come_alike g old (Ok (Submit c)) (Ok (Submit d)) one other sent again once steps alike done ended a b =
    submits_alike g old c one other sent again steps done ended a
    (subst (λ (x : Command). Submits g old x other again) (sym alike) b)
come_alike g old (Ok (Submit c)) (Ok (Batch s rows)) one other sent again once steps alike done ended a b = absurd alike
come_alike g old (Ok (Submit c)) (Ok (Read r)) one other sent again once steps alike done ended a b = absurd alike
come_alike g old (Ok (Batch s rows)) (Ok (Submit c)) one other sent again once steps alike done ended a b = absurd alike
come_alike g old (Ok (Batch s rows)) (Ok (Batch t more)) one other sent again once steps alike done ended (inl a) b =
    absurd (done (ap (λ (m : Message). m.status) a.2))
come_alike g old (Ok (Batch s rows)) (Ok (Batch t more)) one other sent again once steps alike done ended (inr a)
    (inl b) =
    absurd (ended (ap (λ (m : Message). m.status) b.2))
come_alike g old (Ok (Batch s rows)) (Ok (Batch t more)) one other sent again once steps alike done ended (inr a)
    (inr b) =
    batches_alike g old s rows.items one other sent again steps done ended a
    (subst (λ (x : List ℕ). SubmitsAll g old x rows.items other again) (sym alike.0)
    (subst (λ (x : List NewOrder). SubmitsAll g old t x other again) (sym alike.1) b))
come_alike g old (Ok (Batch s rows)) (Ok (Read r)) one other sent again once steps alike done ended a b = absurd alike
come_alike g old (Ok (Read r)) (Ok (Submit c)) one other sent again once steps alike done ended a b = absurd alike
come_alike g old (Ok (Read r)) (Ok (Batch s rows)) one other sent again once steps alike done ended a b = absurd alike
come_alike g old (Ok (Read r)) (Ok (Read q)) one other sent again once steps alike done ended a b =
    readings_alike g old r one other sent again once done ended a
    (subst (λ (x : Reading). Reads g old x other again) (sym alike) b)

pub wanting : {K : Type 0} (g : Ghosts K) (old : Book) (answer : Answer) (desk : Seen K) (sent : Message)
    → sent.status ≢ 503 → ComesTo g old answer desk sent → answer ≡ Err OutOfMemory → ⊥
wanting g old answer desk sent done comes e =
    let c = subst (λ (a : Answer). ComesTo g old a desk sent) e comes in
    done (ap (λ (m : Message). m.status) (said (fault_message OutOfMemory) sent done c.2))

pub determined : {K : Type 0} (g : Ghosts K) (operator input : List ℕ) (old : Book) (one other : Seen K)
    (sent again : Message) → ChoosesOnce → StepsOnce → AsksOnce → Handles g operator old input one sent
    → Handles g operator old input other again → sent.status ≢ 503 → again.status ≢ 503
    → EndAlike g one other sent again
determined g operator input old one other sent again once steps asks a b done ended =
    come_alike g old a.answer b.answer one other sent again once steps
    (asks operator (code_under old) input a.answer b.answer a.asks b.asks
    (wanting g old a.answer one sent done a.comes) (wanting g old b.answer other again ended b.comes))
    done ended a.comes b.comes
