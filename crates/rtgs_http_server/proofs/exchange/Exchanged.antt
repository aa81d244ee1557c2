-- What is known of a request becomes what a desk makes of it.
use Rattle.std.proofs.Common.{false, ◌≡◌, true, ℕ, List, [], ◌∷◌, length, Result, Ok, Err, refl, inl, inr}
use Rattle.std.proofs.Common.{arith, sym, subst}
use Rattle.rtgs_book.specs.Calm.{IsCalm}
use Rattle.rtgs_book.specs.Soundness.{IsSound}
use Rattle.rtgs_book.specs.declared.book.Book.{Book}
use Rattle.rtgs_book.specs.declared.refusal.Refusal.TheVariants.{Failed}
use Rattle.rtgs_keeper.specs.declared.keeper.Keeper.{Ghosts}
use Rattle.rtgs_ledger.specs.Keys.{code_under}
use Rattle.rtgs_desk.specs.Holding.{HasParticipants, Holds}
use Rattle.rtgs_desk.specs.Seen.{Seen}
use Rattle.rtgs_desk.specs.batches.Batches.{with_stop}
use Rattle.rtgs_http_bodies.specs.Refusals.{refused_message}
use Rattle.rtgs_http_server.specs.input.Input.{Requests}
use Rattle.rtgs_http_server.specs.input.Known.{KnowsOf}
use Rattle.rtgs_http_bodies.specs.replies.Messages.{Message}
use Rattle.rtgs_http_requests.specs.Access.{CarriesKey, MayAsk}
use Rattle.rtgs_http_requests.specs.Callers.{CodeOf}
use Rattle.rtgs_http_requests.specs.Exchange.{AsksFor}
use Rattle.rtgs_http_requests.specs.Plans.{PlanLooksUp}
use Rattle.rtgs_http_requests.specs.declared.asked.Asked.{Asked}
use Rattle.rtgs_http_requests.specs.declared.asked.Asked.TheVariants.{Submit, Batch, Read}
use Rattle.rtgs_http_requests.specs.declared.http_fault.HttpFault.{HttpFault}
use Rattle.rtgs_http_bodies.specs.desks.Written.{StillHolds}
use Rattle.rtgs_http_server.specs.exchange.Handling.{ComesTo, Makes, Works, WorksFor, given}
use Rattle.rtgs_http_server.specs.exchange.Exchange.{Exchanges}
use Rattle.rtgs_http_server.specs.exchange.ReplyMessages.{IsSaid, fault_message}

-- on a desk that has failed anybody may have any key
nobody : {K : Type 0} (g : Ghosts K) (desk : Seen K) (code_of : CodeOf) → g.has_failed desk.keeper ≡ true
    → KnowsOf g desk code_of
nobody g desk code_of failed = λ works. let no : ⊥ = cc in absurd no

of_book : {K : Type 0} (g : Ghosts K) (desk : Seen K) (book : Book) → HasParticipants desk book
    → KnowsOf g desk (code_under book)
of_book g desk book memory = λ works. (book, memory, refl)

stood : {K : Type 0} (g : Ghosts K) (old : Book) (desk : Seen K) → IsCalm old → StillHolds g old desk
    → Makes g old [] [] desk
stood g old desk calm s = record {
  last = old;
  calm = calm;
  kept = s.kept;
  none_open = λ works. refl;
  session = λ found left. record {
    replied = omega arith;
    running = omega arith;
    last = old;
    run = refl;
    found = s.after_a_crash found left;
  };
  whole_after_a_crash = s.whole_after_a_crash;
  calm_after_a_crash = λ found left. subst IsCalm (sym (s.after_a_crash found left)) calm;
}

-- no commands
pub idle : {K : Type 0} (g : Ghosts K) (old : Book) (desk : Seen K) → IsCalm old → StillHolds g old desk
    → Works g old desk
idle g old desk calm s = ([], [], stood g old desk calm s)

-- the commands that are asked for
pub works_for : {K : Type 0} (g : Ghosts K) (old : Book) (answer : Result Asked HttpFault) (desk : Seen K)
    (sent : Message) → IsCalm old → ComesTo g old answer desk sent → WorksFor g old answer desk
works_for g old (Err fault) desk sent calm comes = ([], stood g old desk calm comes.0)
works_for g old (Ok (Submit command)) desk sent calm comes = (
  comes.reply ∷ [],
  record {
    last = comes.acts.book;
    calm = comes.acts.calm;
    kept = comes.acts.kept;
    none_open = comes.acts.none_open;
    session = comes.acts.session;
    whole_after_a_crash = comes.acts.whole_after_a_crash;
    calm_after_a_crash = comes.acts.calm_after_a_crash;
  },
)
works_for g old (Ok (Batch sender rows)) desk sent calm (inl comes) = ([], stood g old desk calm comes.0)
works_for g old (Ok (Batch sender rows)) desk sent calm (inr comes) = (
  with_stop comes.acts.given comes.stopped,
  record {
    last = comes.acts.last;
    calm = comes.acts.calm (length comes.replies) comes.acts.given comes.acts.last comes.acts.run;
    kept = comes.acts.kept;
    none_open = comes.acts.none_open;
    session = comes.acts.session;
    whole_after_a_crash = comes.acts.whole_after_a_crash;
    calm_after_a_crash = comes.acts.calm_after_a_crash;
  },
)
works_for g old (Ok (Read reading)) desk sent calm comes = ([], stood g old desk calm comes.0)

pub works_of : {K : Type 0} (g : Ghosts K) (old : Book) (answer : Result Asked HttpFault) (desk : Seen K)
    (sent : Message) → IsCalm old → ComesTo g old answer desk sent → Works g old desk
works_of g old answer desk sent calm comes =
    let works = works_for g old answer desk sent calm comes in (given answer (length works.0), works.0, works.1)

-- a request that asks for something
pub asked_exchange : {K : Type 0} (g : Ghosts K) (operator input : List ℕ) (old new : Seen K) (asked : Asked)
    (sent : Message)
    → ((operator : List ℕ) (code_of : CodeOf) (input : List ℕ) (asked : Asked)
    → AsksFor operator code_of input (Ok asked)
    → (digest : List ℕ) × CarriesKey input digest × MayAsk operator code_of digest asked)
    → ((book : Book) × HasParticipants old book × IsSound book)
    → ((book : Book) → Holds g old book → HasParticipants old book)
    → ((book : Book) → Holds g old book → IsCalm book) → Requests (KnowsOf g old) operator input (Ok asked)
    → (g.is_honest new.keeper → (book : Book) → Holds g old book → ComesTo g book (Ok asked) new sent)
    → (g.has_failed old.keeper ≡ true → (new ≡ old) × IsSaid (refused_message Failed) sent)
    → Exchanges g operator old input new sent
asked_exchange g operator input old new asked sent own memory has calm asks comes failed = record {
  handles = λ honest book held.
      let a = asks.1 (code_under book) (of_book g old book (has book held)) in
      record {
        answer = Ok asked;
        asks = a;
        allowed = own operator (code_under book) input asked a;
        comes = comes honest book held;
        works = works_for g book (Ok asked) new sent (calm book held) (comes honest book held);
      };
  changes =
      let book = memory.0 in
      let a = asks.1 (code_under book) (of_book g old book memory.1) in
      inr (book, memory.1, asked, a, own operator (code_under book) input asked a);
  failed = λ f. ((failed f).0, inl (inr (asked, (λ code_of. asks.1 code_of (nobody g old code_of f))), (failed f).1));
}

-- a request with a fault
pub fault_exchange : {K : Type 0} (g : Ghosts K) (operator input : List ℕ) (desk : Seen K) (fault : HttpFault)
    (sent : Message)
    → ((code_of : CodeOf) → KnowsOf g desk code_of → AsksFor operator code_of input (Err fault))
    → ((book : Book) → Holds g desk book → HasParticipants desk book)
    → ((book : Book) → Holds g desk book → IsCalm book)
    → ((book : Book) → Holds g desk book → StillHolds g book desk)
    → ((book : Book) → Holds g desk book → g.has_failed desk.keeper ≡ false) → IsSaid (fault_message fault) sent
    → Exchanges g operator desk input desk sent
fault_exchange g operator input desk fault sent asks has calm stands work said = record {
  handles = λ honest book held. record {
    answer = Err fault;
    asks = asks (code_under book) (of_book g desk book (has book held));
    allowed = tt;
    comes = (stands book held, work book held, said);
    works = ([], stood g book desk (calm book held) (stands book held));
  };
  changes = inl refl;
  failed = λ f. (refl, inr (fault, (λ code_of. asks code_of (nobody g desk code_of f)), said));
}

-- a request whose caller was to be looked up by a desk that had failed
pub failed_exchange : {K : Type 0} (g : Ghosts K) (operator input : List ℕ) (desk : Seen K) (sent : Message)
    → ((book : Book) → Holds g desk book → g.has_failed desk.keeper ≡ false) → PlanLooksUp operator input
    → g.has_failed desk.keeper ≡ true → IsSaid (refused_message Failed) sent
    → Exchanges g operator desk input desk sent
failed_exchange g operator input desk sent work looks failed said = record {
  handles = λ honest book held. let works = work book held in let no : ⊥ = cc in absurd no;
  changes = inl refl;
  failed = λ f. (refl, inl (inl looks, said));
}
