-- A whole input asks for one thing.
use Rattle.std.proofs.Common.{◌≡◌, ◌≤◌, ◌++◌, inl, inr, ℕ, List, length, take, Option, Some, None, Result}
use Rattle.std.proofs.Common.{Ok, Err, refl, sym, ap, ◌∙◌, arith}
use Rattle.std.specs.Prelude.{◌≢◌}
use Rattle.std.proofs.lemmas.List.{append_cancel_left}
use Rattle.httparse.specs.Grammar.{RequestHead}
use Rattle.rtgs_http_requests.specs.heads.Heads.{IsGoodHead, fields_of}
use Rattle.rtgs_http_requests.specs.heads.Parameters.{Parts}
use Rattle.rtgs_http_requests.specs.heads.Targets.{routed, is_post}
use Rattle.rtgs_http_requests.specs.declared.heads.route.Route.{Route}
use Rattle.rtgs_http_requests.specs.Bodies.{body_length}
use Rattle.rtgs_http_requests.specs.Callers.{Caller, CodeOf, caller_under}
use Rattle.rtgs_http_requests.specs.Exchange.{AsksFor, HasRegion, HasHead, HasRoute, HasCaller, HasBody}
use Rattle.rtgs_http_requests.specs.Meaning.{Answer, Means}
use Rattle.rtgs_http_requests.specs.Same.{AreTheSame}
use Rattle.rtgs_http_requests.specs.declared.http_fault.HttpFault.{HttpFault}
use Rattle.rtgs_http_requests.specs.declared.http_fault.HttpFault.TheVariants as fault
use Rattle.rtgs_http_requests.proofs.Agreement.{Agree, IsDetermined, Tells, once_outcome, equal_outcome, then_once}
use Rattle.rtgs_http_requests.proofs.Lower.{LowerLaws}
use Rattle.rtgs_http_requests.proofs.MeaningOnce.{fault_same, meant_once}
use Rattle.rtgs_http_requests.proofs.Stages.{after_size, after_caller, after_route, after_head, after_region}
use Rattle.rtgs_http_requests.proofs.ContentsOnce.{same_two}

region_once : LowerLaws → (input : List ℕ) → IsDetermined (HasRegion input)
region_once laws input (Ok one) (Ok other) x y =
    let region : one.0 ≡ other.0 = laws.regions input one.0 other.0 one.1 other.1 x y in
    let behind : one.0 ++ one.1 ≡ one.0 ++ other.1 = sym x.0 ∙ y.0 ∙ ap (λ r. r ++ other.1) (sym region) in
    inr (inr (ap (λ p. Ok p) (same_two one other region (append_cancel_left one.0 one.1 other.1 behind))))
region_once laws input (Ok one) (Err fault.HeadTooLong) x y = absurd (laws.not_long input one.0 one.1 x y)
region_once laws input (Ok one) (Err fault.Truncated) x y = absurd (laws.not_open input one.0 one.1 x y)
region_once laws input (Err fault.HeadTooLong) (Ok other) x y = absurd (laws.not_long input other.0 other.1 y x)
region_once laws input (Err fault.HeadTooLong) (Err fault.HeadTooLong) x y = inr (inr refl)
region_once laws input (Err fault.HeadTooLong) (Err fault.Truncated) x y = absurd (laws.long_is_not_open input x y)
region_once laws input (Err fault.Truncated) (Ok other) x y = absurd (laws.not_open input other.0 other.1 y x)
region_once laws input (Err fault.Truncated) (Err fault.HeadTooLong) x y = absurd (laws.long_is_not_open input y x)
region_once laws input (Err fault.Truncated) (Err fault.Truncated) x y = inr (inr refl)
region_once laws input (Err fault.OutOfMemory) other x y = inl refl
region_once laws input one (Err fault.OutOfMemory) x y = inr (inl refl)
region_once laws input (Ok one) (Err _) x y = absurd y
region_once laws input (Err fault.HeadTooLong) (Err _) x y = absurd y
region_once laws input (Err fault.Truncated) (Err _) x y = absurd y
region_once laws input (Err _) other x y = absurd x

abbrev IsHeadOf : List ℕ → RequestHead × Option ℕ → Type 0
IsHeadOf region read = IsGoodHead region read.0 read.1

tells_head : (region : List ℕ) (outcome : Result (RequestHead × Option ℕ) HttpFault) → HasHead region outcome
    → Tells (IsHeadOf region) fault.BadHead outcome
tells_head region (Ok read) x = inl (read, refl, x)
tells_head region (Err fault.BadHead) none = inr (inl (refl, λ read. none read.0 read.1))
tells_head region (Err _) x = absurd x

head_once : LowerLaws → (region : List ℕ) → IsDetermined (HasHead region)
head_once laws region one other x y =
    once_outcome (IsHeadOf region) fault.BadHead
    (λ a b p q. same_two a b (laws.heads region a.0 b.0 a.1 b.1 p q) (laws.lengths region a.0 b.0 a.1 b.1 p q))
    one other (tells_head region one x) (tells_head region other y)

abbrev IsRouteOf : RequestHead → Route × Parts → Type 0
IsRouteOf head found = routed head.method head.target ≡ Some found

no_route : (head : RequestHead) (found : Route × Parts) → routed head.method head.target ≡ None
    → ¬ IsRouteOf head found
no_route head found none some =
    let clash : ◌≡◌ {A = Option (Route × Parts)} None (Some found) = sym none ∙ some in
    cc

tells_route : (head : RequestHead) (outcome : Result (Route × Parts) HttpFault) → HasRoute head outcome
    → Tells (IsRouteOf head) fault.NoSuchRoute outcome
tells_route head (Ok found) x = inl (found, refl, x)
tells_route head (Err fault.NoSuchRoute) none = inr (inl (refl, λ found. no_route head found none))
tells_route head (Err fault.OutOfMemory) x = inr (inr refl)
tells_route head (Err _) x = absurd x

one_route : (head : RequestHead) (one other : Route × Parts) → IsRouteOf head one → IsRouteOf head other → one ≡ other
one_route head one other x y =
    let same : Some one ≡ Some other = sym x ∙ y in
    cc

route_once : (head : RequestHead) → IsDetermined (HasRoute head)
route_once head one other x y =
    once_outcome (IsRouteOf head) fault.NoSuchRoute (one_route head) one other (tells_route head one x)
    (tells_route head other y)

caller_once : LowerLaws → (operator : List ℕ) (code_of : CodeOf) (route : Route) (head : RequestHead)
    → IsDetermined (HasCaller operator code_of route head)
caller_once laws operator code_of route head one other x y =
    let key : x.0 ≡ y.0 = laws.keys (fields_of head) x.0 y.0 x.1 y.1 in
    inr (inr (x.2 ∙ ap (λ k. caller_under operator code_of route k) key ∙ sym y.2))

abbrev IsBodyOf : List ℕ → ℕ → List ℕ → Type 0
IsBodyOf rest size body = (size ≤ length rest) × (body ≡ take size rest)

tells_body : (rest : List ℕ) (size : ℕ) (outcome : Result (List ℕ) HttpFault) → HasBody rest size outcome
    → Tells (IsBodyOf rest size) fault.Truncated outcome
tells_body rest size (Ok body) x = inl (body, refl, x)
tells_body rest size (Err fault.Truncated) short = inr (inl (refl, λ body has. omega (arith, short, has.0)))
tells_body rest size (Err fault.OutOfMemory) x = inr (inr refl)
tells_body rest size (Err _) x = absurd x

body_once : (rest : List ℕ) (size : ℕ) → IsDetermined (HasBody rest size)
body_once rest size one other x y =
    once_outcome (IsBodyOf rest size) fault.Truncated (λ a b p q. p.1 ∙ sym q.1) one other (tells_body rest size one x)
    (tells_body rest size other y)

-- the steps from the length on, from the caller on, and so on
size_on : LowerLaws → (rest : List ℕ) (parts : Parts) (caller : Caller) (size : ℕ) (one other : Answer)
    → after_size rest parts caller size one → after_size rest parts caller size other
    → Agree AreTheSame one other
size_on laws rest parts caller size one other x y =
    then_once AreTheSame fault_same (HasBody rest size) (λ body. Means caller parts body) (body_once rest size)
    (λ body. meant_once laws caller parts body) one other x y

caller_on : LowerLaws → (head : RequestHead) (declared : Option ℕ) (rest : List ℕ) (parts : Parts) (caller : Caller)
    (one other : Answer)
    → after_caller head declared rest parts caller one → after_caller head declared rest parts caller other
    → Agree AreTheSame one other
caller_on laws head declared rest parts caller one other x y =
    then_once AreTheSame fault_same (λ outcome. outcome ≡ body_length (is_post head.method) declared)
    (after_size rest parts caller)
    (equal_outcome (body_length (is_post head.method) declared)) (size_on laws rest parts caller) one other x y

route_on : LowerLaws → (operator : List ℕ) (code_of : CodeOf) (rest : List ℕ) (head : RequestHead) (declared : Option ℕ)
    (found : Route × Parts) (one other : Answer)
    → after_route operator code_of rest head declared found one
    → after_route operator code_of rest head declared found other → Agree AreTheSame one other
route_on laws operator code_of rest head declared found one other x y =
    then_once AreTheSame fault_same (HasCaller operator code_of found.0 head) (after_caller head declared rest found.1)
    (caller_once laws operator code_of found.0 head) (caller_on laws head declared rest found.1) one other x y

head_on : LowerLaws → (operator : List ℕ) (code_of : CodeOf) (rest : List ℕ) (read : RequestHead × Option ℕ)
    (one other : Answer)
    → after_head operator code_of rest read one → after_head operator code_of rest read other
    → Agree AreTheSame one other
head_on laws operator code_of rest read one other x y =
    then_once AreTheSame fault_same (HasRoute read.0) (after_route operator code_of rest read.0 read.1)
    (route_once read.0) (route_on laws operator code_of rest read.0 read.1) one other x y

region_on : LowerLaws → (operator : List ℕ) (code_of : CodeOf) (parts : List ℕ × List ℕ) (one other : Answer)
    → after_region operator code_of parts one → after_region operator code_of parts other → Agree AreTheSame one other
region_on laws operator code_of parts one other x y =
    then_once AreTheSame fault_same (HasHead parts.0) (after_head operator code_of parts.1)
    (head_once laws parts.0) (head_on laws operator code_of parts.1) one other x y

pub answered_once : LowerLaws → (operator : List ℕ) (code_of : CodeOf) (input : List ℕ) (one other : Answer)
    → AsksFor operator code_of input one → AsksFor operator code_of input other
    → one ≢ Err fault.OutOfMemory → other ≢ Err fault.OutOfMemory → AreTheSame one other
answered_once laws operator code_of input one other x y enough also =
    by (then_once AreTheSame fault_same (HasRegion input) (after_region operator code_of) (region_once laws input)
    (region_on laws operator code_of) one other x y)
  where
    by : Agree AreTheSame one other → AreTheSame one other
    by (inl e) = absurd (enough e)
    by (inr (inl e)) = absurd (also e)
    by (inr (inr same)) = same
