-- What a participant asks for is its own.
use Rattle.std.proofs.Common.{◌≡◌, inl, inr, ℕ, List, Bool, true, false, Option, Some, None}
use Rattle.std.proofs.Common.{Result, Ok, Err, refl, sym, subst}
use Rattle.std.specs.Str.{bytes_eq}
use Rattle.std.proofs.lemmas.Slice.Eq.{bytes_eq-Decides}
use Rattle.httparse.specs.Grammar.{RequestHead}
use Rattle.serde_json.specs.Data.{Data}
use Rattle.rtgs_book.specs.declared.command.Command.TheVariants as command
use Rattle.rtgs_book.specs.declared.new_order.NewOrder.{NewOrder}
use Rattle.rtgs_book.specs.declared.reading.Reading.TheVariants as reading
use Rattle.rtgs_http_requests.specs.heads.Fields.{HasKey}
use Rattle.rtgs_http_requests.specs.heads.Heads.{fields_of}
use Rattle.rtgs_http_requests.specs.heads.Targets.{is_post}
use Rattle.rtgs_http_requests.specs.heads.Parameters.{Parts}
use Rattle.rtgs_http_requests.specs.declared.heads.bank_route.BankRoute.{BankRoute}
use Rattle.rtgs_http_requests.specs.declared.heads.bank_route.BankRoute.TheVariants.{SendOrder, WithdrawOrder}
use Rattle.rtgs_http_requests.specs.declared.heads.bank_route.BankRoute.TheVariants.{SendBatch}
use Rattle.rtgs_http_requests.specs.declared.heads.bank_route.BankRoute.TheVariants.{ReadOrder, ReadAccount, ReadQueue}
use Rattle.rtgs_http_requests.specs.declared.heads.bank_route.BankRoute.TheVariants.{ReadHeld, ReadWaiting}
use Rattle.rtgs_http_requests.specs.declared.heads.bank_route.BankRoute.TheVariants.{ReadStatement}
use Rattle.rtgs_http_requests.specs.declared.heads.route.Route.{Route}
use Rattle.rtgs_http_requests.specs.declared.heads.route.Route.TheVariants.{Bank, Operator}
use Rattle.rtgs_http_requests.specs.Bodies.{ReadsJson, body_length}
use Rattle.rtgs_http_requests.specs.Callers.{Caller, CodeOf, caller_under, known}
use Rattle.rtgs_http_requests.specs.Contents.{FindsContent, HasNothing}
use Rattle.rtgs_http_requests.specs.Exchange.{AsksFor, HasRegion, HasHead, HasRoute, HasCaller, HasBody}
use Rattle.rtgs_http_requests.specs.Meaning.{Answer, AsksPlainly, AsksBatch, Means, MeansBank, SubmitsOrder}
use Rattle.rtgs_http_requests.specs.OrderBody.{OrderValues, HasOrder, SpellsOrder}
use Rattle.rtgs_http_requests.specs.Spelling.{SpellsReference, SpellsDate}
use Rattle.rtgs_http_requests.specs.Steps.{Then, Goes}
use Rattle.rtgs_http_requests.specs.declared.admitted.Admitted.TheVariants as admitted
use Rattle.rtgs_http_requests.specs.declared.asked.Asked.{Asked}
use Rattle.rtgs_http_requests.specs.declared.asked.Asked.TheVariants.{Submit, Batch, Read}
use Rattle.rtgs_http_requests.specs.declared.http_fault.HttpFault.{HttpFault}
use Rattle.rtgs_http_requests.specs.Access.{CarriesKey, IsOwn, MayAsk}
use Rattle.rtgs_http_requests.proofs.Stages.{after_size, after_caller, after_route, after_head, after_region}

-- where the steps gave a value, the first gave one
value_of : {A B : Type 0} (Step : Result A HttpFault → Type 0) (next : A → Result B HttpFault → Type 0) (answer : B)
    → Then Step next (Ok answer) → (value : A) × Step (Ok value) × next value (Ok answer)
value_of {A} {B} Step next answer x = by x.0 x.1 x.2
  where
    by : (outcome : Result A HttpFault) → Step outcome → Goes next (Ok answer) outcome
        → (value : A) × Step (Ok value) × next value (Ok answer)
    by (Ok value) step goes = (value, step, goes)
    by (Err fault) step goes = let no : ⊥ = cc goes in absurd no

abbrev answered : Asked → Answer
answered asked = Ok asked

same_own : (code : List ℕ) (asked other : Asked) → answered asked ≡ answered other → IsOwn code other → IsOwn code asked
same_own code asked other e own =
    let same : asked ≡ other = cc in
    let P : Asked → Type 0 = λ a. IsOwn code a in
    subst P (sym same) own

order_own : (caller : List ℕ) (values : OrderValues) (asked : Asked) → SubmitsOrder caller values (Ok asked)
    → IsOwn caller asked
order_own caller values asked x =
    let order : NewOrder → Asked = λ order. Submit (command.Order caller order) in
    let d = value_of (SpellsOrder values) (λ given (answer : Answer). answer ≡ Ok (order given)) asked x in
    same_own caller asked (order d.0) d.2 refl

batch_own : (caller body : List ℕ) (asked : Asked) → AsksBatch caller body (Ok asked) → IsOwn caller asked
batch_own caller body (Submit command) x = absurd x
batch_own caller body (Batch sender rows) x = x.0
batch_own caller body (Read read) x = absurd x

abbrev without_fields : Asked → Data → Answer → Type 0
without_fields asked value = Then (FindsContent (λ (_ : Unit {0}) given. HasNothing given) value)
    (λ (_ : Unit {0}) (answer : Answer). answer ≡ Ok asked)

bank_own : (route : BankRoute) (caller parameter body : List ℕ) (asked : Asked)
    → MeansBank route caller parameter body (Ok asked) → IsOwn caller asked
bank_own SendOrder caller parameter body asked x =
    let v = value_of (ReadsJson body) (λ value. Then (FindsContent HasOrder value) (SubmitsOrder caller)) asked x in
    let w = value_of (FindsContent HasOrder v.0) (SubmitsOrder caller) asked v.2 in
    order_own caller w.0 asked w.2
bank_own WithdrawOrder caller parameter body asked x =
    let r = value_of (SpellsReference parameter) (λ reference. AsksPlainly body
    (Submit (command.Withdraw caller reference))) asked x in
    let v = value_of (ReadsJson body) (without_fields (Submit (command.Withdraw caller r.0))) asked r.2 in
    let w = value_of (FindsContent (λ (_ : Unit {0}) given. HasNothing given) v.0)
    (λ (_ : Unit {0}) (answer : Answer). answer ≡ Ok (Submit (command.Withdraw caller r.0))) asked v.2 in
    same_own caller asked (Submit (command.Withdraw caller r.0)) w.2 refl
bank_own SendBatch caller parameter body asked x = batch_own caller body asked x
bank_own ReadOrder caller parameter body asked x =
    let r = value_of (SpellsReference parameter) (λ reference (answer : Answer). answer
    ≡ Ok (Read (reading.Order caller reference))) asked x in
    same_own caller asked (Read (reading.Order caller r.0)) r.2 refl
bank_own ReadAccount caller parameter body asked x = same_own caller asked (Read (reading.Account caller)) x refl
bank_own ReadQueue caller parameter body asked x = same_own caller asked (Read (reading.Queue caller)) x refl
bank_own ReadHeld caller parameter body asked x = same_own caller asked (Read (reading.Held caller)) x refl
bank_own ReadWaiting caller parameter body asked x = same_own caller asked (Read (reading.Waiting caller)) x refl
bank_own ReadStatement caller parameter body asked x =
    let d = value_of (SpellsDate parameter) (λ date (answer : Answer). answer
    ≡ Ok (Read (reading.Statement caller date))) asked x in
    same_own caller asked (Read (reading.Statement caller d.0)) d.2 refl

-- a key under a route leads to the operator, or to the participant who has it
keyed : (operator : List ℕ) (code_of : CodeOf) (route : Route) (digest : List ℕ) (caller : Caller)
    (parts : Parts) (body : List ℕ) (asked : Asked)
    → Ok caller ≡ caller_under operator code_of route (Some digest) → Means caller parts body (Ok asked)
    → MayAsk operator code_of digest asked
keyed operator code_of (Operator route) digest caller parts body asked e means = by (bytes_eq digest operator) refl
  where
    by : (same : Bool) → bytes_eq digest operator ≡ same → MayAsk operator code_of digest asked
    by true same = inl ((bytes_eq-Decides digest operator).0 same)
    by false other = let bad = rw other at e in let no : ⊥ = cc bad in absurd no
keyed operator code_of (Bank route) digest caller parts body asked e means = by (bytes_eq digest operator) refl
  where
    own : (code : Option (List ℕ)) → code_of digest ≡ code → Ok caller ≡ known route code
        → MayAsk operator code_of digest asked
    own None found bad = let no : ⊥ = cc bad in absurd no
    own (Some code) found is =
        let same : caller ≡ admitted.Bank route code = cc is in
        let P : Caller → Type 0 = λ a. Means a parts body (Ok asked) in
        inr (code, found, bank_own route code parts.first body asked (subst P same means))

    by : (same : Bool) → bytes_eq digest operator ≡ same → MayAsk operator code_of digest asked
    by true same = inl ((bytes_eq-Decides digest operator).0 same)
    by false other = own (code_of digest) refl (rw other at e)

pub own_alone : (operator : List ℕ) (code_of : CodeOf) (input : List ℕ) (asked : Asked)
    → AsksFor operator code_of input (Ok asked)
    → (digest : List ℕ) × CarriesKey input digest × MayAsk operator code_of digest asked
own_alone operator code_of input asked x =
    let parts = value_of (HasRegion input) (after_region operator code_of) asked x in
    let read = value_of (HasHead parts.0.0) (after_head operator code_of parts.0.1) asked parts.2 in
    let found = value_of (HasRoute read.0.0) (after_route operator code_of parts.0.1 read.0.0 read.0.1) asked read.2 in
    let caller = value_of (HasCaller operator code_of found.0.0 read.0.0)
    (after_caller read.0.0 read.0.1 parts.0.1 found.0.1) asked found.2 in
    let size = value_of (λ outcome. outcome ≡ body_length (is_post read.0.0.method) read.0.1)
    (after_size parts.0.1 found.0.1 caller.0) asked caller.2 in
    let body = value_of (HasBody parts.0.1 size.0) (λ body. Means caller.0 found.0.1 body) asked size.2 in
    by parts.0.0 parts.0.1 found.0.1 body.0 read.0.0 read.0.1 found.0.0 caller.0 caller.1.0 caller.1.1 caller.1.2 body.2
    parts.1 read.1
  where
    by : (region rest : List ℕ) (parts : Parts) (body : List ℕ) (head : RequestHead) (declared : Option ℕ)
        (route : Route) (caller : Caller) (key : Option (List ℕ)) → HasKey (fields_of head) key
        → Ok caller ≡ caller_under operator code_of route key
        → Means caller parts body (Ok asked) → HasRegion input (Ok (region, rest))
        → HasHead region (Ok (head, declared))
        → (digest : List ℕ) × CarriesKey input digest × MayAsk operator code_of digest asked
    by region rest parts body head declared route caller None has e means starts good = let no : ⊥ = cc e
        in absurd no
    by region rest parts body head declared route caller (Some digest) has e means starts good = (
      digest,
      record {
        region = region;
        rest = rest;
        head = head;
        declared = declared;
        starts = starts;
        good = good;
        key = has;
      },
      keyed operator code_of route digest caller parts body asked e means,
    )
