-- What an input asks for depends on whose the key is that it carries, and on no other.
use Rattle.std.proofs.Common.{◌≡◌, ℕ, List, Option, Some, None, Result, Ok, Err, refl, subst, ◌∙◌}
use Rattle.httparse.specs.Grammar.{RequestHead}
use Rattle.rtgs_http_requests.specs.feeds.Region.{StartsWith}
use Rattle.rtgs_http_requests.specs.heads.Fields.{Fields, HasKey}
use Rattle.rtgs_http_requests.specs.heads.Heads.{IsGoodHead, fields_of}
use Rattle.rtgs_http_requests.specs.heads.Parameters.{Parts}
use Rattle.rtgs_http_requests.specs.heads.Targets.{is_post}
use Rattle.rtgs_http_requests.specs.declared.heads.route.Route.{Route}
use Rattle.rtgs_http_requests.specs.declared.heads.route.Route.TheVariants.{Bank, Operator}
use Rattle.rtgs_http_requests.specs.Access.{CarriesKey}
use Rattle.rtgs_http_requests.specs.Bodies.{body_length}
use Rattle.rtgs_http_requests.specs.Callers.{CodeOf, caller_under}
use Rattle.rtgs_http_requests.specs.Exchange.{AsksFor, HasRegion, HasHead, HasRoute, HasCaller, HasBody}
use Rattle.rtgs_http_requests.specs.Meaning.{Answer, Means}
use Rattle.rtgs_http_requests.specs.Steps.{Then, Goes}
use Rattle.rtgs_http_requests.specs.declared.http_fault.HttpFault.{HttpFault}

-- the laws of lower crates by which an input carries one key at most
pub record KeysOnce : Type 0 where
  pub regions : (input one other rest more : List ℕ) → StartsWith input one rest → StartsWith input other more
      → one ≡ other
  pub heads : (region : List ℕ) (one other : RequestHead) (declared more : Option ℕ) → IsGoodHead region one declared
      → IsGoodHead region other more → one ≡ other
  pub keys : (fields : Fields) (one other : Option (List ℕ)) → HasKey fields one → HasKey fields other → one ≡ other

pub key_once : KeysOnce → (input one other : List ℕ) → CarriesKey input one → CarriesKey input other → one ≡ other
key_once laws input one other a b =
    let region = laws.regions input a.region b.region a.rest b.rest a.starts b.starts in
    let good = subst (λ (r : List ℕ). IsGoodHead r a.head a.declared) region a.good in
    let head = laws.heads b.region a.head b.head a.declared b.declared good b.good in
    let key = subst (λ (h : RequestHead). HasKey (fields_of h) (Some one)) head a.key in
    let same = laws.keys (fields_of b.head) (Some one) (Some other) key b.key in cc

-- steps of which the first has the same value go on alike
then_alike : {A B : Type 0} (Step : Result A HttpFault → Type 0) (next after : A → Result B HttpFault → Type 0)
    (answer : Result B HttpFault) → ((value : A) → Step (Ok value) → next value answer → after value answer)
    → Then Step next answer → Then Step after answer
then_alike {A} {B} Step next after answer alike x = by x.0 x.1 x.2
  where
    by : (outcome : Result A HttpFault) → Step outcome → Goes next answer outcome → Then Step after answer
    by (Ok value) step goes = (Ok value, step, alike value step goes)
    by (Err fault) step goes = (Err fault, step, goes)

caller_alike : (operator : List ℕ) (one other : CodeOf) (route : Route) (key : Option (List ℕ))
    → ((digest : List ℕ) → key ≡ Some digest → one digest ≡ other digest)
    → caller_under operator one route key ≡ caller_under operator other route key
caller_alike operator one other route None same = refl
caller_alike operator one other (Operator route) (Some digest) same = refl
caller_alike operator one other (Bank route) (Some digest) same = rw (same digest refl) refl

-- what is asked once the route was found
abbrev WithRoute : List ℕ → CodeOf → List ℕ → RequestHead → Option ℕ → Route × Parts → Answer → Type 0
WithRoute operator code_of rest head declared found =
    Then (HasCaller operator code_of found.0 head) (λ caller.
    Then (λ outcome. outcome ≡ body_length (is_post head.method) declared) (λ size.
    Then (HasBody rest size) (λ body.
    Means caller found.1 body)))

-- once the head was read
abbrev WithHead : List ℕ → CodeOf → List ℕ → RequestHead × Option ℕ → Answer → Type 0
WithHead operator code_of rest read = Then (HasRoute read.0) (WithRoute operator code_of rest read.0 read.1)

-- once the region was taken
abbrev WithRegion : List ℕ → CodeOf → List ℕ × List ℕ → Answer → Type 0
WithRegion operator code_of parts = Then (HasHead parts.0) (WithHead operator code_of parts.1)

-- with participants who have the key alike, the same is asked
pub asked_alike : (operator input : List ℕ) (one other : CodeOf) (answer : Answer)
    → ((digest : List ℕ) → CarriesKey input digest → one digest ≡ other digest) → AsksFor operator one input answer
    → AsksFor operator other input answer
asked_alike operator input one other answer same =
    then_alike (HasRegion input) (WithRegion operator one) (WithRegion operator other) answer (λ parts starts.
    then_alike (HasHead parts.0) (WithHead operator one parts.1) (WithHead operator other parts.1) answer (λ read good.
    then_alike (HasRoute read.0) (WithRoute operator one parts.1 read.0 read.1)
    (WithRoute operator other parts.1 read.0 read.1) answer (λ found routed asks.
    let alike = caller_alike operator one other found.0 asks.1.0 (λ digest is. same digest (record {
      region = parts.0;
      rest = parts.1;
      head = read.0;
      declared = read.1;
      starts = starts;
      good = good;
      key = subst (λ (k : Option (List ℕ)). HasKey (fields_of read.0) k) is asks.1.1;
    })) in
    (asks.0, (asks.1.0, asks.1.1, asks.1.2 ∙ alike), asks.2))))
