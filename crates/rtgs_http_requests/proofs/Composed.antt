-- The steps of a head and of a key, put together.
use Rattle.std.proofs.Common.{◌≡◌, ℕ, List, Bool, Option, Some, None, Result, Ok, Err, refl, sym, ap, ◌∙◌, subst}
use Rattle.httparse.specs.Grammar.{RequestHead}
use Rattle.rtgs_http_requests.specs.heads.Fields.{HasKey}
use Rattle.rtgs_http_requests.specs.heads.Heads.{IsGoodHead, fields_of}
use Rattle.rtgs_http_requests.specs.heads.Parameters.{Parts, taken}
use Rattle.rtgs_http_requests.specs.heads.Requests.{HasParts}
use Rattle.rtgs_http_requests.specs.heads.Targets.{is_post, routed, GivesRoute}
use Rattle.rtgs_http_requests.specs.declared.heads.head.Head.{Head}
use Rattle.rtgs_http_requests.specs.declared.heads.head_fault.HeadFault.{HeadFault}
use Rattle.rtgs_http_requests.specs.declared.heads.head_fault.HeadFault.TheVariants as head
use Rattle.rtgs_http_requests.specs.declared.heads.parameters.Parameters.{Parameters}
use Rattle.rtgs_http_requests.specs.declared.heads.route.Route.{Route}
use Rattle.rtgs_http_requests.specs.Bodies.{body_length}
use Rattle.rtgs_http_requests.specs.Callers.{Caller, CodeOf, caller_under, LeadsToCaller}
use Rattle.rtgs_http_requests.specs.Exchange.{HasBody}
use Rattle.rtgs_http_requests.specs.Faults.{of_head}
use Rattle.rtgs_http_requests.specs.Meaning.{Answer, Means}
use Rattle.rtgs_http_requests.specs.Steps.{Then, Goes}
use Rattle.rtgs_http_requests.specs.declared.admitted.Admitted.TheVariants as admitted
use Rattle.rtgs_http_requests.specs.declared.http_fault.HttpFault.{HttpFault}
use Rattle.rtgs_http_requests.specs.declared.http_fault.HttpFault.TheVariants as fault
use Rattle.rtgs_http_requests.specs.Plans.{Plans, MayLookUp, admitted_by}
use Rattle.rtgs_http_requests.specs.declared.plan.Plan.{Plan}

-- a region that is no good head has this fault in each input that starts with it
pub no_head : (operator region : List ℕ)
    → ((read : RequestHead) (declared : Option ℕ) → ¬ IsGoodHead region read declared)
    → Plans operator region (Err fault.BadHead)
no_head operator region none code_of input rest starts = (Ok (region, rest), starts, (Err fault.BadHead, none, refl))

-- the region is a good head with these parts
abbrev pub IsReadAs : List ℕ → Head → Type 0
IsReadAs region kept = (read : RequestHead) × IsGoodHead region read kept.length × HasParts read kept

-- its route is that of the parts
routed_as : (read : RequestHead) (kept : Head) (found : Option (Route × Parts)) → HasParts read kept
    → routed kept.method.now kept.target.now ≡ found → routed read.method read.target ≡ found
routed_as read kept found parts e =
    let P : List ℕ → Type 0 = λ method. routed method read.target ≡ found in
    let Q : List ℕ → Type 0 = λ target. routed kept.method.now target ≡ found in
    subst P parts.method (subst Q parts.target e)

-- the fault of its route is that of each input that starts with it
pub route_fails : (operator region : List ℕ) (kept : Head) (bad : HeadFault) → IsReadAs region kept
    → GivesRoute kept.method.now kept.target.now (Err bad) → Plans operator region (Err (of_head bad))
route_fails operator region kept head.BadHead parsed gives code_of input rest starts = absurd gives
route_fails operator region kept head.NoSuchRoute parsed gives code_of input rest starts = (
  Ok (region, rest),
  starts,
  (
    Ok (parsed.0, kept.length),
    parsed.1,
    (
      Err fault.NoSuchRoute,
      routed_as parsed.0 kept None parsed.2 gives,
      refl,
    ),
  ),
)
route_fails operator region kept head.OutOfMemory parsed gives code_of input rest starts =
    (Err fault.OutOfMemory, tt, refl)

-- so is the fault of its key
pub key_fails : (operator region : List ℕ) (kept : Head) (found : Route × Parameters) (bad : HttpFault)
    → IsReadAs region kept → GivesRoute kept.method.now kept.target.now (Ok found)
    → LeadsToCaller operator found.0 kept.key (Err bad) → Plans operator region (Err bad)
key_fails operator region kept found bad parsed gives leads code_of input rest starts = (
  Ok (region, rest),
  starts,
  (
    Ok (parsed.0, kept.length),
    parsed.1,
    (
      Ok (found.0, taken found.1),
      routed_as parsed.0 kept (Some (found.0, taken found.1)) parsed.2 gives,
      (
        Err bad,
        (kept.key, parsed.2.key, sym (leads code_of)),
        refl,
      ),
    ),
  ),
)

led : (operator : List ℕ) (route : Route) (key : Option (List ℕ)) (known : Caller) (code_of : CodeOf)
    → LeadsToCaller operator route key (Ok known) → caller_under operator code_of route key
    ≡ admitted_by code_of known
led operator route key (admitted.Operator served) code_of leads = leads code_of
led operator route key (admitted.Bank served digest) code_of leads = leads.3 code_of

abbrev behind : Bool → Option ℕ → Parts → List ℕ → Caller → Answer → Type 0
behind posts length parts rest caller =
    Then (λ parsed. parsed ≡ body_length posts length) (λ size.
    Then (HasBody rest size) (λ body.
    Means caller parts body))

same_behind : (posts other : Bool) (length declared : Option ℕ) (parts : Parts) (rest : List ℕ)
    (parsed : Result Caller HttpFault) (answer : Answer)
    → posts ≡ other → length ≡ declared → Goes (behind posts length parts rest) answer parsed
    → Goes (behind other declared parts rest) answer parsed
same_behind posts other length declared parts rest parsed answer p l goes =
    let P : Bool → Type 0 = λ b. Goes (behind b length parts rest) answer parsed in
    let Q : Option ℕ → Type 0 = λ n. Goes (behind other n parts rest) answer parsed in
    subst Q l (subst P p goes)

-- what is asked under a plan is asked by each input that starts with its region
pub planned : (operator region : List ℕ) (kept : Head) (found : Route × Parameters) (plan : Plan)
    → IsReadAs region kept → GivesRoute kept.method.now kept.target.now (Ok found)
    → LeadsToCaller operator found.0 kept.key (Ok plan.caller)
    → taken plan.parameters ≡ taken found.1 → plan.posts ≡ is_post kept.method.now → plan.length ≡ kept.length
    → Plans operator region (Ok plan)
planned operator region kept found plan parsed gives leads parts posts size code_of input rest answer starts after =
    let P : Parts → Type 0 = λ p. Goes (behind plan.posts plan.length p rest) answer after.0 in
    let same : is_post kept.method.now ≡ is_post parsed.0.method = ap (λ m. is_post m) parsed.2.method in
    let goes =
    same_behind plan.posts (is_post parsed.0.method) plan.length kept.length (taken found.1) rest after.0 answer
    (posts ∙ same) size (subst P parts after.2) in (
      Ok (region, rest),
      starts,
      (
        Ok (parsed.0, kept.length),
        parsed.1,
        (
          Ok (found.0, taken found.1),
          routed_as parsed.0 kept (Some (found.0, taken found.1)) parsed.2 gives,
          (
            after.0,
            (kept.key, parsed.2.key, after.1 ∙ sym (led operator found.0 kept.key plan.caller code_of leads)),
            goes,
          ),
        ),
      ),
    )

-- where a key leaves its bearer to be looked up, each input that starts with the region does
pub looked_up : (operator region : List ℕ) (kept : Head) (found : Route × Parameters) (known : Caller)
    → IsReadAs region kept → GivesRoute kept.method.now kept.target.now (Ok found)
    → LeadsToCaller operator found.0 kept.key (Ok known) → MayLookUp operator region known
looked_up operator region kept found (admitted.Operator served) parsed gives leads = tt
looked_up operator region kept found (admitted.Bank served digest) parsed gives leads = λ input rest starts. record {
  region = region;
  rest = rest;
  head = parsed.0;
  declared = kept.length;
  route = served;
  parts = taken found.1;
  digest = digest;
  starts = starts;
  good = parsed.1;
  found = subst (λ (r : Route). routed parsed.0.method parsed.0.target ≡ Some (r, taken found.1)) leads.0
      (routed_as parsed.0 kept (Some (found.0, taken found.1)) parsed.2 gives);
  key = subst (λ (k : Option (List ℕ)). HasKey (fields_of parsed.0) k) leads.1 parsed.2.key;
  other = leads.2;
}
