-- A participant is shown its own rows.
use Rattle.std.proofs.Common.{◌≡◌, ℕ, List, Some, Ok, Err, sym, ap, subst, ◌∙◌, inl, inr}
use Rattle.std.specs.Prelude.{◌≢◌}
use Rattle.rtgs_book.specs.Choice.{Choice}
use Rattle.rtgs_book.specs.declared.book.Book.{Book}
use Rattle.rtgs_desk.specs.Seen.{Seen}
use Rattle.rtgs_http_bodies.specs.replies.Messages.{Message}
use Rattle.rtgs_http_requests.specs.Access.{CarriesKey, MayAsk, IsOwn}
use Rattle.rtgs_http_requests.specs.Callers.{CodeOf}
use Rattle.rtgs_http_requests.specs.Exchange.{AsksFor}
use Rattle.rtgs_http_requests.specs.Meaning.{Answer}
use Rattle.rtgs_http_requests.specs.Same.{AreTheSame}
use Rattle.rtgs_http_requests.specs.declared.asked.Asked.{Asked}
use Rattle.rtgs_http_requests.specs.declared.asked.Asked.TheVariants.{Submit, Batch, Read}
use Rattle.rtgs_book.specs.declared.reading.Reading.{Reading}
use Rattle.rtgs_keeper.specs.declared.keeper.Keeper.{Ghosts}
use Rattle.rtgs_ledger.specs.Keys.{code_under}
use Rattle.rtgs_http_server.specs.exchange.Handling.{ComesTo, Reads}
use Rattle.rtgs_http_server.specs.exchange.Exchange.{Handles}
use Rattle.rtgs_http_server.specs.reply_laws.Own.{AgreeFor, IsSentBy}
use Rattle.rtgs_http_server.specs.exchange.ReplyMessages.{reading_message}
use Rattle.rtgs_http_server.proofs.reply_laws.Callers.{KeysOnce, key_once, asked_alike}
use Rattle.rtgs_http_server.proofs.reply_laws.Determined.{AsksOnce, read_of, wanting}
use Rattle.rtgs_http_server.proofs.reply_laws.OwnRows.{own_rows}

-- the key that an input carries is one participant's in two books
pub same_bearer : KeysOnce → (operator input code : List ℕ) (one other : Book) → IsSentBy operator one code input
    → IsSentBy operator other code input → (digest : List ℕ) → CarriesKey input digest
    → code_under one digest ≡ code_under other digest
same_bearer laws operator input code one other by_one by_other digest key =
    ap (code_under one) (key_once laws input digest by_one.digest key by_one.key) ∙ by_one.participant
    ∙ sym by_other.participant ∙ ap (code_under other) (key_once laws input by_other.digest digest by_other.key key)

-- whatever is asked is asked by the bearer of a key
abbrev pub AskOwn : Type 0
AskOwn = (operator : List ℕ) (code_of : CodeOf) (input : List ℕ) (asked : Asked)
    → AsksFor operator code_of input (Ok asked)
    → (digest : List ℕ) × CarriesKey input digest × MayAsk operator code_of digest asked

-- what is asked with a participant's key is its own
pub own_asked : KeysOnce → AskOwn → (operator input code : List ℕ) (book : Book) (asked : Asked)
    → IsSentBy operator book code input → AsksFor operator (code_under book) input (Ok asked) → IsOwn code asked
own_asked laws own operator input code book asked sender asks =
    let borne = own operator (code_under book) input asked asks in
    by borne.0 (key_once laws input borne.0 sender.digest borne.1 sender.key) borne.2
  where
    by : (digest : List ℕ) → digest ≡ sender.digest → MayAsk operator (code_under book) digest asked → IsOwn code asked
    by digest same (inl e) = absurd (sender.other (sym same ∙ e))
    by digest same (inr (other, found, is)) =
        let found_too = subst (λ (d : List ℕ). code_under book d ≡ Some other) same found in
        let who = sender.participant in
        let one : other ≡ code = cc in
        subst (λ (c : List ℕ). IsOwn c asked) one is

-- what comes of an answer that is this reading
reads : {K : Type 0} (g : Ghosts K) (old : Book) (answer : Answer) (reading : Reading) (desk : Seen K) (sent : Message)
    → AreTheSame answer (Ok (Read reading)) → ComesTo g old answer desk sent → Reads g old reading desk sent
reads g old (Err fault) reading desk sent same comes = absurd same
reads g old (Ok (Submit command)) reading desk sent same comes = absurd same
reads g old (Ok (Batch sender rows)) reading desk sent same comes = absurd same
reads g old (Ok (Read other)) reading desk sent same comes =
    subst (λ (r : Reading). Reads g old r desk sent) same comes

-- an input that asks for this reading is sent it
reading_sent : {K : Type 0} (g : Ghosts K) (operator input : List ℕ) (old : Book) (reading : Reading) (desk : Seen K)
    (sent : Message) → AsksOnce → AsksFor operator (code_under old) input (Ok (Read reading))
    → Handles g operator old input desk sent → sent.status ≢ 503
    → (choice : Choice) × (sent ≡ reading_message old choice reading)
reading_sent g operator input old reading desk sent once asks handles done =
    let same = once operator (code_under old) input handles.answer (Ok (Read reading)) handles.asks asks
    (wanting g old handles.answer desk sent done handles.comes) (λ e. let no : ⊥ = cc in no) in
    let read = reads g old handles.answer reading desk sent same handles.comes in
    (read.1, read_of g (reading_message old read.1 reading) desk sent done read.3)

pub own_replies : {K : Type 0} (g : Ghosts K) → KeysOnce → AsksOnce → AskOwn → (operator input code : List ℕ)
    (one other : Book) (first second : Seen K) (sent again : Message) (reading : Reading) → AgreeFor code one other
    → IsSentBy operator one code input → IsSentBy operator other code input
    → AsksFor operator (code_under one) input (Ok (Read reading)) → Handles g operator one input first sent
    → Handles g operator other input second again → sent.status ≢ 503 → again.status ≢ 503 → again ≡ sent
own_replies g laws once own operator input code one other first second sent again reading agree by_one by_other asks
    handles handled done ended =
    let alike = same_bearer laws operator input code one other by_one by_other in
    let asks_again = asked_alike operator input (code_under one) (code_under other) (Ok (Read reading)) alike asks in
    let is = own_asked laws own operator input code one (Read reading) by_one asks in
    let before = reading_sent g operator input one reading first sent once asks handles done in
    let after = reading_sent g operator input other reading second again once asks_again handled ended in
    after.1 ∙ sym (own_rows one other before.0 after.0 code reading is agree) ∙ sym before.1
