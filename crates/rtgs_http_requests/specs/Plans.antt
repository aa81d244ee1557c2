-- What a head leaves to be known.
use Rattle.std.specs.Prelude.{◌≡◌, ◌≢◌, ⊤, ℕ, List, Option, Some, Result, Ok, Err}
use Rattle.httparse.specs.Grammar.{RequestHead}
use Rattle.rtgs_http_requests.specs.feeds.Region.{StartsWith}
use Rattle.rtgs_http_requests.specs.heads.Fields.{HasKey}
use Rattle.rtgs_http_requests.specs.heads.Heads.{IsGoodHead, fields_of}
use Rattle.rtgs_http_requests.specs.heads.Parameters.{Parts, taken}
use Rattle.rtgs_http_requests.specs.heads.Targets.{routed}
use Rattle.rtgs_http_requests.specs.declared.heads.bank_route.BankRoute.{BankRoute}
use Rattle.rtgs_http_requests.specs.declared.heads.route.Route.TheVariants.{Bank}
use Rattle.rtgs_http_requests.specs.Bodies.{body_length}
use Rattle.rtgs_http_requests.specs.Callers.{Caller, CodeOf, known}
use Rattle.rtgs_http_requests.specs.Exchange.{AsksFor, HasBody}
use Rattle.rtgs_http_requests.specs.Meaning.{Answer, Means}
use Rattle.rtgs_http_requests.specs.Steps.{Then}
use Rattle.rtgs_http_requests.specs.declared.admitted.Admitted.TheVariants as admitted
use Rattle.rtgs_http_requests.specs.declared.http_fault.HttpFault.{HttpFault}
use Rattle.rtgs_http_requests.specs.declared.plan.Plan.{Plan}

-- the caller who is known by a digest, where the participants have these digests
abbrev pub admitted_by : CodeOf → Caller → Result Caller HttpFault
admitted_by code_of (admitted.Operator route) = Ok (admitted.Operator route)
admitted_by code_of (admitted.Bank route digest) = known route (code_of digest)

-- what a caller asks for under a plan, where this comes behind the region
abbrev pub AfterCaller : Plan → List ℕ → Caller → Answer → Type 0
AfterCaller plan rest caller =
    Then (λ outcome. outcome ≡ body_length plan.posts plan.length) (λ size.
    Then (HasBody rest size) (λ body.
    Means caller (taken plan.parameters) body))

-- what is asked under a plan
abbrev pub AfterHead : Plan → CodeOf → List ℕ → Answer → Type 0
AfterHead plan code_of rest = Then (λ outcome. outcome ≡ admitted_by code_of plan.caller) (AfterCaller plan rest)

-- The plan, or the fault, is that of each input that starts with the region.
abbrev pub Plans : List ℕ → List ℕ → Result Plan HttpFault → Type 0
Plans operator region (Ok plan) = (code_of : CodeOf) (input rest : List ℕ) (answer : Answer)
    → StartsWith input region rest → AfterHead plan code_of rest answer → AsksFor operator code_of input answer
Plans operator region (Err fault) = (code_of : CodeOf) (input rest : List ℕ)
    → StartsWith input region rest → AsksFor operator code_of input (Err fault)

-- The input's head is good, its route is one of banks, and its only key is not the operator's: so the next step looks
-- up whose the key is.
pub record PlanLooksUp (operator input : List ℕ) : Type 0 where
  pub region : List ℕ
  pub rest : List ℕ
  pub head : RequestHead
  pub declared : Option ℕ
  pub route : BankRoute
  pub parts : Parts
  pub digest : List ℕ
  pub starts : StartsWith input region rest
  pub good : IsGoodHead region head declared
  pub found : routed head.method head.target ≡ Some (Bank route, parts)
  pub key : HasKey (fields_of head) (Some digest)
  pub other : digest ≢ operator

-- Where a caller is left to be looked up, so it is by each input that starts with the region.
abbrev pub MayLookUp : List ℕ → List ℕ → Caller → Type 0
MayLookUp operator region (admitted.Operator route) = ⊤
MayLookUp operator region (admitted.Bank route digest) =
    (input rest : List ℕ) → StartsWith input region rest → PlanLooksUp operator input
