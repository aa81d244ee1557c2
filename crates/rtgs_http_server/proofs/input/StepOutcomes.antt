-- The outcome of a step that reads, among the steps of a request.
use Rattle.std.proofs.Common.{◌≡◌, ℕ, List, ◌++◌, Option, Some, None, Result, Ok, Err, refl, sym, ap, subst}
use Rattle.std.proofs.Common.{◌∙◌, append_assoc}
use Rattle.std.specs.Io.KnownBytes.{Consumes}
use Rattle.rtgs_http_requests.specs.feeds.Region.{IsRegion, StartsWith}
use Rattle.rtgs_http_requests.specs.declared.heads.bank_route.BankRoute.{BankRoute}
use Rattle.rtgs_http_requests.specs.declared.heads.operator_route.OperatorRoute.{OperatorRoute}
use Rattle.rtgs_http_requests.specs.Bodies.{body_length}
use Rattle.rtgs_http_requests.specs.Callers.{Caller, CodeOf, known}
use Rattle.rtgs_http_requests.specs.Exchange.{HasBody, HasRegion}
use Rattle.rtgs_http_requests.specs.Plans.{Plans, MayLookUp, AfterCaller, admitted_by}
use Rattle.rtgs_http_requests.specs.declared.admitted.Admitted.TheVariants as admitted
use Rattle.rtgs_http_requests.specs.declared.asked.Asked.{Asked}
use Rattle.rtgs_http_requests.specs.declared.http_fault.HttpFault.{HttpFault}
use Rattle.rtgs_http_requests.specs.declared.plan.Plan.{Plan}
use Rattle.rtgs_http_server.specs.input.Input.{OfInput, StepFails, Says, FindsCaller, Requests}
use Rattle.rtgs_http_server.specs.declared.input.unread.Unread.{Unread}
use Rattle.rtgs_http_server.specs.declared.input.unread.Unread.TheVariants.{Reader, DirectoryFailed, Faulty}

-- a step that asks no directory does not tell of one that failed
pub asks_none : {X : Type 0} (left : Option (List ℕ)) (Step : List ℕ → Result X HttpFault → Type 0)
    (result : Result X Unread) → OfInput left (λ rest. Says (Step rest) result) → result ≡ Err DirectoryFailed → ⊥
asks_none {X} None Step result h e = subst (λ (r : Result X Unread). Says (Step h.0) r) e h.1
asks_none {X} (Some rest) Step result h e = subst (λ (r : Result X Unread). Says (Step rest) r) e h

pub region_fails : (Knows : CodeOf → Type 0) (operator input : List ℕ) (unread : Unread)
    → StepFails (λ fault. HasRegion input (Err fault)) unread → Requests Knows operator input (Err unread)
region_fails Knows operator input (Reader failed) h = tt
region_fails Knows operator input DirectoryFailed h = absurd h
region_fails Knows operator input (Faulty fault) h = λ code_of known. (Err fault, h, refl)

pub caller_fails : (Knows : CodeOf → Type 0) (operator region : List ℕ) (plan : Plan) (input rest : List ℕ)
    (unread : Unread) → Plans operator region (Ok plan) → MayLookUp operator region plan.caller
    → StartsWith input region rest → FindsCaller Knows plan.caller (Err unread)
    → Requests Knows operator input (Err unread)
caller_fails Knows operator region plan input rest (Reader failed) plans looks starts h = absurd h
caller_fails Knows operator region plan input rest DirectoryFailed plans looks starts h =
    subst (λ (a : Caller). MayLookUp operator region a) h.2 looks input rest starts
caller_fails Knows operator region plan input rest (Faulty fault) plans looks starts h =
    λ code_of known. plans code_of input rest _ starts (Err fault, h code_of known, refl)

pub operator_found : (Knows : CodeOf → Type 0) (given : Caller) (route : OperatorRoute)
    → given ≡ admitted.Operator route → FindsCaller Knows given (Ok (admitted.Operator route))
operator_found Knows given route e =
    subst (λ (a : Caller). FindsCaller Knows a (Ok (admitted.Operator route))) (sym e)
    ((λ digest. None, refl), λ code_of known. refl)

pub participant_found : (Knows : CodeOf → Type 0) (given : Caller) (route : BankRoute) (digest caller : List ℕ)
    → given ≡ admitted.Bank route digest
    → ((code_of : CodeOf) → Knows code_of → Some caller ≡ code_of digest)
    → FindsCaller Knows given (Ok (admitted.Bank route caller))
participant_found Knows given route digest caller e found =
    subst (λ (a : Caller). FindsCaller Knows a (Ok (admitted.Bank route caller))) (sym e)
    ((λ other. Some caller, refl), λ code_of knows. ap (known route) (found code_of knows))

pub body_fails : (plan : Plan) (rest : List ℕ) (caller : Caller) (size : ℕ) (unread : Unread)
    → Ok size ≡ body_length plan.posts plan.length
    → StepFails (λ fault. HasBody rest size (Err fault)) unread
    → StepFails (λ fault. AfterCaller plan rest caller (Err fault)) unread
body_fails plan rest caller size (Reader failed) e h = tt
body_fails plan rest caller size DirectoryFailed e h = absurd h
body_fails plan rest caller size (Faulty fault) e h = (Ok size, e, (Err fault, h, refl))

pub content_read : (Knows : CodeOf → Type 0) (operator region : List ℕ) (plan : Plan) (input rest : List ℕ)
    (caller : Caller) (result : Result Asked Unread) → Plans operator region (Ok plan) → StartsWith input region rest
    → FindsCaller Knows plan.caller (Ok caller) → Says (AfterCaller plan rest caller) result
    → Requests Knows operator input result
content_read Knows operator region plan input rest caller (Ok asked) plans starts e h = (
  (e.0.0, plans e.0.0 input rest _ starts (Ok caller, e.0.1, h)),
  λ code_of known. plans code_of input rest _ starts (Ok caller, e.1 code_of known, h),
)
content_read Knows operator region plan input rest caller (Err (Reader failed)) plans starts e h = tt
content_read Knows operator region plan input rest caller (Err DirectoryFailed) plans starts e h = absurd h
content_read Knows operator region plan input rest caller (Err (Faulty fault)) plans starts e h =
    λ code_of known. plans code_of input rest _ starts (Ok caller, e.1 code_of known, h)

-- what holds of every input that starts with the region and the bytes read behind it holds of the one that was read
pub whole : (a b : Option (List ℕ)) (region read : List ℕ) (Q : List ℕ → Type 0) → Consumes a b (region ++ read)
    → IsRegion region
    → OfInput b (λ rest. (input : List ℕ) → StartsWith input region (read ++ rest) → Q input) → OfInput a Q
whole None None region read Q e is h = (region ++ (read ++ h.0), h.1 (region ++ (read ++ h.0)) (refl, is))
whole None (Some y) region read Q e is h = (region ++ (read ++ y), h (region ++ (read ++ y)) (refl, is))
whole (Some x) None region read Q e is h = absurd e
whole (Some x) (Some y) region read Q e is h = h x (e ∙ append_assoc region read y, is)
