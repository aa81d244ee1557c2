-- Each input asks for something, or has a fault.
use Rattle.std.proofs.Common.{◌≡◌, ◌≤◌, ◌<◌, ◌⊎◌, ◌∷◌, [], inl, inr, ℕ, List, Bool, true, false, length, take, codes}
use Rattle.std.proofs.Common.{Option, Some, None, Result, Ok, Err, refl, Global, if◌then◌else◌, nat_le}
use Rattle.std.specs.Prelude.{◌≢◌}
use Rattle.std.specs.Str.{bytes_eq}
use Rattle.std.proofs.lemmas.Bool.{cases_lt}
use Rattle.httparse.specs.Grammar.{RequestHead}
use Rattle.rtgs_money.specs.Forms.{IsKey}
use Rattle.rtgs_http_requests.specs.feeds.Region.{StartsWith, IsTooLong, IsOpen}
use Rattle.rtgs_http_requests.specs.declared.feeds.limits.TheConstants.{LONGEST_BODY}
use Rattle.rtgs_http_requests.specs.heads.Fields.{HasKey, values_of}
use Rattle.rtgs_http_requests.specs.heads.Heads.{IsGoodHead, fields_of}
use Rattle.rtgs_http_requests.specs.heads.Parameters.{Parts}
use Rattle.rtgs_http_requests.specs.heads.Targets.{routed, is_post}
use Rattle.rtgs_http_requests.specs.declared.heads.bank_route.BankRoute.{BankRoute}
use Rattle.rtgs_http_requests.specs.declared.heads.route.Route.{Route}
use Rattle.rtgs_http_requests.specs.declared.heads.route.Route.TheVariants.{Bank, Operator}
use Rattle.rtgs_http_requests.specs.Bodies.{body_length}
use Rattle.rtgs_http_requests.specs.Callers.{Caller, CodeOf, caller_under, known}
use Rattle.rtgs_http_requests.specs.Exchange.{AsksFor, HasRegion, HasHead, HasRoute, HasCaller, HasBody}
use Rattle.rtgs_http_requests.specs.Meaning.{Means}
use Rattle.rtgs_http_requests.specs.Steps.{HasAnswer}
use Rattle.rtgs_http_requests.specs.declared.admitted.Admitted.TheVariants as admitted
use Rattle.rtgs_http_requests.specs.declared.http_fault.HttpFault.{HttpFault}
use Rattle.rtgs_http_requests.specs.declared.http_fault.HttpFault.TheVariants as fault
use Rattle.rtgs_http_requests.proofs.Answered.{then_answered, outcome_answered, equal_answered}
use Rattle.rtgs_http_requests.proofs.MeaningAnswered.{meaning_answered}
use Rattle.rtgs_http_requests.proofs.Stages.{after_size, after_caller, after_route, after_head, after_region}

abbrev pub Outcome : List ℕ → Type 0
Outcome input = ((region : List ℕ) × (rest : List ℕ) × StartsWith input region rest) ⊎ (IsTooLong input ⊎ IsOpen input)

region_answered : (input : List ℕ) → Outcome input → HasAnswer (HasRegion input)
region_answered input (inl x) none = let clash = none (Ok (x.0, x.1)) x.2 in cc
region_answered input (inr (inl long)) none = let clash = none (Err fault.HeadTooLong) long in cc
region_answered input (inr (inr unfinished)) none = let clash = none (Err fault.Truncated) unfinished in cc

abbrev IsHeadOf : List ℕ → RequestHead × Option ℕ → Type 0
IsHeadOf region read = IsGoodHead region read.0 read.1

head_answered : (region : List ℕ) → HasAnswer (HasHead region)
head_answered region =
    outcome_answered (IsHeadOf region) fault.BadHead (HasHead region) (λ e. cc) (λ read has. has)
    (λ none head declared. none (head, declared))

route_answered : (head : RequestHead) → HasAnswer (HasRoute head)
route_answered head none = by (routed head.method head.target) refl
  where
    by : (found : Option (Route × Parts)) → routed head.method head.target ≡ found → ⊥
    by None e = let clash = none (Err fault.NoSuchRoute) e in cc
    by (Some found) e = let clash = none (Ok found) e in cc

-- a caller is never a lack of memory
known_takes_no_memory : (route : BankRoute) (code : Option (List ℕ)) → known route code ≢ Err fault.OutOfMemory
known_takes_no_memory route None e = cc
known_takes_no_memory route (Some code) e = cc

caller_takes_no_memory : (operator : List ℕ) (code_of : CodeOf) (route : Route) (key : Option (List ℕ))
    → caller_under operator code_of route key ≢ Err fault.OutOfMemory
caller_takes_no_memory operator code_of route None = λ e. cc
caller_takes_no_memory operator code_of (Operator route) (Some digest) = by (bytes_eq digest operator)
  where
    by : (same : Bool) → ◌≢◌ {A = Result Caller HttpFault}
        (if same then Ok (admitted.Operator route) else Err fault.NoKey) (Err fault.OutOfMemory)
    by true e = cc
    by false e = cc
caller_takes_no_memory operator code_of (Bank route) (Some digest) = by (bytes_eq digest operator)
  where
    by : (same : Bool) → ◌≢◌ {A = Result Caller HttpFault}
        (if same then Err fault.NoKey else known route (code_of digest)) (Err fault.OutOfMemory)
    by true e = cc
    by false e = known_takes_no_memory route (code_of digest) e

caller_answered : (operator : List ℕ) (code_of : CodeOf) (route : Route) (head : RequestHead)
    → HasAnswer (HasCaller operator code_of route head)
caller_answered operator code_of route head none = with None no_key
  where
    with : (key : Option (List ℕ)) → ¬ HasKey (fields_of head) key
    with key has = caller_takes_no_memory operator code_of route key (none (caller_under operator code_of route key)
        (key, has, refl))

    no_key : (key : List ℕ) → values_of (codes "desk-key") (fields_of head) ≡ key ∷ [] → ¬ IsKey key
    no_key key e is = with (Some _) (key, e, is, refl)

length_takes_no_memory : (posts : Bool) (declared : Option ℕ) → body_length posts declared ≢ Err fault.OutOfMemory
length_takes_no_memory false declared = λ e. cc
length_takes_no_memory true None = λ e. cc
length_takes_no_memory true (Some size) = by (nat_le size LONGEST_BODY)
  where
    by : (fits : Bool) → ◌≢◌ {A = Result ℕ HttpFault} (if fits then Ok size else Err fault.BodyTooLong)
        (Err fault.OutOfMemory)
    by true e = cc
    by false e = cc

body_answered : (rest : List ℕ) (size : ℕ) → HasAnswer (HasBody rest size)
body_answered rest size none = by (cases_lt (length rest) size)
  where
    by : ¬ ((length rest < size) ⊎ (size ≤ length rest))
    by (inl short) = let clash = none (Err fault.Truncated) short in cc
    by (inr enough) = let clash = none (Ok (take size rest)) (enough, refl) in cc

-- the steps from the length on, from the caller on, and so on
size_on : Global → (rest : List ℕ) (parts : Parts) (caller : Caller) (size : ℕ)
    → HasAnswer (after_size rest parts caller size)
size_on alloc rest parts caller size =
    then_answered (HasBody rest size) (λ body. Means caller parts body) (body_answered rest size)
    (λ body. meaning_answered alloc caller parts body)

caller_on : Global → (head : RequestHead) (declared : Option ℕ) (rest : List ℕ) (parts : Parts) (caller : Caller)
    → HasAnswer (after_caller head declared rest parts caller)
caller_on alloc head declared rest parts caller =
    then_answered (λ outcome. outcome ≡ body_length (is_post head.method) declared) (after_size rest parts caller)
    (equal_answered (body_length (is_post head.method) declared)
    (length_takes_no_memory (is_post head.method) declared))
    (size_on alloc rest parts caller)

route_on : Global → (operator : List ℕ) (code_of : CodeOf) (rest : List ℕ) (head : RequestHead) (declared : Option ℕ)
    (found : Route × Parts)
    → HasAnswer (after_route operator code_of rest head declared found)
route_on alloc operator code_of rest head declared found =
    then_answered (HasCaller operator code_of found.0 head) (after_caller head declared rest found.1)
    (caller_answered operator code_of found.0 head) (caller_on alloc head declared rest found.1)

head_on : Global → (operator : List ℕ) (code_of : CodeOf) (rest : List ℕ) (read : RequestHead × Option ℕ)
    → HasAnswer (after_head operator code_of rest read)
head_on alloc operator code_of rest read =
    then_answered (HasRoute read.0) (after_route operator code_of rest read.0 read.1)
    (route_answered read.0) (route_on alloc operator code_of rest read.0 read.1)

region_on : Global → (operator : List ℕ) (code_of : CodeOf) (parts : List ℕ × List ℕ)
    → HasAnswer (after_region operator code_of parts)
region_on alloc operator code_of parts =
    then_answered (HasHead parts.0) (after_head operator code_of parts.1) (head_answered parts.0)
    (head_on alloc operator code_of parts.1)

pub input_answered : Global → ((input : List ℕ) → Outcome input)
    → (operator : List ℕ) (code_of : CodeOf) (input : List ℕ) → HasAnswer (AsksFor operator code_of input)
input_answered alloc outcome operator code_of input =
    then_answered (HasRegion input) (after_region operator code_of) (region_answered input (outcome input))
    (region_on alloc operator code_of)
