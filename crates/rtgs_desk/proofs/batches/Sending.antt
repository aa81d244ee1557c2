-- What a batch makes of a book that the desk held.
use Rattle.std.proofs.Common.{◌≡◌, ◌<◌, ℕ, true, false, List, [], ◌∷◌, ◌++◌, length, map, take, get_or, Option, Some}
use Rattle.std.proofs.Common.{None, Ok, Err, refl, sym, ap, subst, ◌∙◌, arith}
use Rattle.std.proofs.lemmas.List.{length-map, map-append}
use Rattle.std.specs.List.{AllByRecursion}
use Rattle.rtgs_book.specs.declared.book.Book.{Book}
use Rattle.rtgs_book.specs.declared.command.Command.{Command}
use Rattle.rtgs_book.specs.declared.refusal.Refusal.{Refusal}
use Rattle.rtgs_book.specs.Calm.{IsCalm}
use Rattle.rtgs_book.specs.Outcome.{Reply, alone, own_of}
use Rattle.rtgs_book.specs.Run.{Run}
use Rattle.rtgs_book.specs.Session.{is_judged, MayFind}
use Rattle.rtgs_book.specs.Soundness.{IsSound}
use Rattle.rtgs_laws.specs.repeats.Batch.{MayComeAgain}
use Rattle.rtgs_laws.specs.repeats.Lasting.{AreLasting}
use Rattle.rtgs_keeper.specs.declared.Keeper.{Ghosts}
use Rattle.rtgs_desk.specs.Holding.{Holds, Acts}
use Rattle.rtgs_desk.specs.Seen.{Seen}
use Rattle.rtgs_order_files.specs.declared.batch_result.RowReply.{RowReply}
use Rattle.rtgs_book.specs.declared.new_order.NewOrder.{NewOrder}
use Rattle.rtgs_desk.specs.batches.Batches.{order_of, orders_of, reply_of, replies_of, open_order, StopsAfter}
use Rattle.rtgs_desk.specs.batches.Sent.{Sent}
use Rattle.rtgs_desk.proofs.batches.Rows.{AreJudged, open_at_stop, open_at_end, session_at_stop, session_at_end}

-- the laws of the definitions that a batch rests on
pub record Laws : Type 0 where
  pub lasts : (old new : Book) (commands : List Command) (replies : List Reply) → IsSound old
      → Run old commands replies new → AreLasting old commands replies new
  pub resumed : (old mid last end : Book) (sender : List ℕ) (rows : List NewOrder) (n : ℕ)
      (first again once : List Reply) → IsSound old → MayComeAgain old first →
      Run old (orders_of sender (take n rows)) first mid → Run mid (orders_of sender rows) again last
      → Run old (orders_of sender rows) once end → last ≡ end
  pub stopped : (old mid found last end : Book) (sender : List ℕ) (rows : List NewOrder) (replies : List Reply)
      (stopped : Option Refusal) (again once : List Reply) → IsSound old → MayComeAgain old replies →
      AllByRecursion (λ reply. is_judged reply ≡ true) replies
      → StopsAfter (length replies) (length rows) stopped
      → Run old (orders_of sender (take (length replies) rows)) replies mid →
      MayFind mid (open_order sender rows replies stopped) found → Run found (orders_of sender rows) again last
      → Run old (orders_of sender rows) once end → last ≡ end

-- the rows so far, each with a reply, led to a book that the desk holds
pub record SoFar {K : Type 0} (g : Ghosts K) (old : Book) (sender : List ℕ) (rows : List NewOrder)
    (replies : List RowReply) (desk : Seen K) : Type 0 where
  pub last : Book
  pub given : List Reply
  pub shown : map own_of given ≡ replies_of replies
  pub judged : AreJudged given
  pub run : Run old (orders_of sender rows) given last
  pub held : Holds g desk last

-- of each row there is one whole reply
pub as_many : (given : List Reply) (replies : List RowReply) → map own_of given ≡ replies_of replies
    → length given ≡ length replies
as_many given replies shown = sym (length-map given own_of) ∙ ap length shown ∙ length-map replies reply_of

-- so it is with one row more
pub shown_push : (given : List Reply) (replies : List RowReply) (whole : Reply) (reply : RowReply)
    → map own_of given ≡ replies_of replies → own_of whole ≡ reply_of reply
    → map own_of (given ++ whole ∷ []) ≡ replies_of (replies ++ reply ∷ [])
shown_push given replies whole reply shown same = map-append own_of given (whole ∷ [])
    ∙ ap (λ rs. rs ++ own_of whole ∷ []) shown ∙ ap (λ r. replies_of replies ++ r ∷ []) same
    ∙ sym (map-append reply_of replies (reply ∷ []))

-- a whole reply is judged as its own part is
pub judged_alone : (whole : Reply) → is_judged (alone (own_of whole)) ≡ is_judged whole
judged_alone (Ok answer) = refl
judged_alone (Err refusal) = refl

-- a refusal is the whole reply
pub refused_whole : (whole : Reply) (refusal : Refusal) → own_of whole ≡ Err refusal → whole ≡ Err refusal
refused_whole (Ok answer) refusal e = absurd (cc)
refused_whole (Err other) refusal e = ap alone e

-- every row has a reply
pub sent_at_end : {K : Type 0} (g : Ghosts K) → Laws → (old last : Book) (sender : List ℕ) (rows : List NewOrder)
    (replies : List RowReply) (given : List Reply) (desk : Seen K) → IsSound old → IsCalm old
    → map own_of given ≡ replies_of replies → length given ≡ length rows → AreJudged given
    → Run old (orders_of sender (take (length given) rows)) given last → Holds g desk last
    → ((found : Book) → g.leaves desk.keeper found → found ≡ last) → g.is_whole desk.keeper
    → Sent g old sender rows replies None desk
sent_at_end g laws old last sender rows replies given desk sound calm shown counted all run held leaves whole =
    let none = open_at_end sender rows given counted all in
    let shortened = subst (λ n. Run old (orders_of sender (take n rows)) given last) (as_many given replies shown)
    run in
    let may : (found : Book) → g.leaves desk.keeper found → MayFind last (open_order sender rows given None) found =
    λ found left. subst (λ o. MayFind last o found) (sym none) (leaves found left) in
    record {
      last = last;
      given = given;
      shown = shown;
      run = shortened;
      lasting = laws.lasts old last (orders_of sender (take (length replies) rows)) given sound shortened;
      calm = λ n replied mid one. (laws.lasts old mid (orders_of sender (take n rows)) replied sound one).calm calm;
      resumed = λ later end again once room. laws.resumed old last later end sender rows (length given) given again once
          sound room run;
      resumed_after_a_crash = λ found later end again once room. laws.stopped old last found later end sender rows
          given None again once sound room all counted run;
      kept = λ works. held;
      none_open = λ works. none;
      after_a_crash = may;
      session = λ found left. session_at_end sender rows given old last found counted all run (may found left);
      whole_after_a_crash = whole;
      calm_after_a_crash = λ found left. subst IsCalm (sym (leaves found left))
          ((laws.lasts old last (orders_of sender (take (length given) rows)) given sound run).calm calm);
    }

-- the batch stopped at a row
pub sent_at_stop : {K : Type 0} (g : Ghosts K) → Laws → (old last : Book) (sender : List ℕ) (rows : List NewOrder)
    (at : ℕ) (row : NewOrder) (replies : List RowReply) (given : List Reply) (refusal : Refusal) (desk : Seen K)
    → IsSound old → IsCalm old → at < length rows → row ≡ get_or rows at row
    → map own_of given ≡ replies_of replies → length given ≡ at → AreJudged given → is_judged (Err refusal) ≡ false
    → Run old (orders_of sender (take at rows)) given last
    → Acts g last (order_of sender row) (Err refusal) desk → Sent g old sender rows replies (Some refusal) desk
sent_at_stop g laws old last sender rows at row replies given refusal desk sound calm within is shown counted all
    unjudged
    run acts =
    let same : acts.book ≡ last = acts.unjudged unjudged in
    let begun : Run old (orders_of sender (take (length given) rows)) given last =
    subst (λ n. Run old (orders_of sender (take n rows)) given last) (sym counted) run in
    let shortened = subst (λ n. Run old (orders_of sender (take n rows)) given last) (as_many given replies shown)
    begun in
    let opened = open_at_stop sender rows at row given refusal within is counted all in
    let may : (found : Book) → g.leaves desk.keeper found → MayFind last (open_order sender rows given (Some refusal))
    found =
    λ found left. subst (λ o. MayFind last o found) (sym opened)
    (subst (λ book. MayFind book _ found) same (acts.after_a_crash found left)) in
    record {
      last = last;
      given = given;
      shown = shown;
      run = shortened;
      lasting = laws.lasts old last (orders_of sender (take (length replies) rows)) given sound shortened;
      calm = λ n replied mid one. (laws.lasts old mid (orders_of sender (take n rows)) replied sound one).calm calm;
      resumed = λ later end again once room. laws.resumed old last later end sender rows (length given) given again once
          sound room begun;
      resumed_after_a_crash = λ found later end again once room. laws.stopped old last found later end sender rows
          given (Some refusal) again once sound room all (omega (arith, within, counted), unjudged) begun;
      kept = λ works. subst (Holds g desk) same (acts.kept works);
      none_open = λ works. opened ∙ acts.none_open works;
      after_a_crash = may;
      session = λ found left. session_at_stop sender rows at row given refusal old last found within is counted all
          unjudged run (may found left);
      whole_after_a_crash = acts.whole_after_a_crash;
      calm_after_a_crash = acts.calm_after_a_crash;
    }
