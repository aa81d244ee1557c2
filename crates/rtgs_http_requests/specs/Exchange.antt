-- What a whole input asks for, or the fault of the first step that fails.
use Rattle.std.specs.Prelude.{◌≡◌, ◌≤◌, ◌<◌, ⊤, ℕ, List, length, take, Option, Some, None, Result, Ok, Err}
use Rattle.httparse.specs.Grammar.{RequestHead}
use Rattle.rtgs_http_requests.specs.feeds.Region.{StartsWith, IsTooLong, IsOpen}
use Rattle.rtgs_http_requests.specs.heads.Fields.{HasKey}
use Rattle.rtgs_http_requests.specs.heads.Heads.{IsGoodHead, fields_of}
use Rattle.rtgs_http_requests.specs.heads.Parameters.{Parts}
use Rattle.rtgs_http_requests.specs.heads.Targets.{routed, is_post}
use Rattle.rtgs_http_requests.specs.declared.heads.route.Route.{Route}
use Rattle.rtgs_http_requests.specs.declared.http_fault.HttpFault.{HttpFault}
use Rattle.rtgs_http_requests.specs.declared.http_fault.HttpFault.TheVariants.{BadHead, HeadTooLong, Truncated}
use Rattle.rtgs_http_requests.specs.declared.http_fault.HttpFault.TheVariants.{NoSuchRoute, OutOfMemory}
use Rattle.rtgs_http_requests.specs.Bodies.{body_length}
use Rattle.rtgs_http_requests.specs.Callers.{Caller, CodeOf, caller_under}
use Rattle.rtgs_http_requests.specs.Meaning.{Answer, Means}
use Rattle.rtgs_http_requests.specs.Steps.{Then}

-- the head's region, and what comes after it
abbrev pub HasRegion : List ℕ → Result (List ℕ × List ℕ) HttpFault → Type 0
HasRegion input (Ok (region, rest)) = StartsWith input region rest
HasRegion input (Err HeadTooLong) = IsTooLong input
HasRegion input (Err Truncated) = IsOpen input
HasRegion input (Err OutOfMemory) = ⊤
HasRegion input (Err _) = ⊥

-- the head that the region is, and the length that it declares
abbrev pub HasHead : List ℕ → Result (RequestHead × Option ℕ) HttpFault → Type 0
HasHead region (Ok (head, declared)) = IsGoodHead region head declared
HasHead region (Err BadHead) = (head : RequestHead) (declared : Option ℕ) → ¬ IsGoodHead region head declared
HasHead region (Err _) = ⊥

-- the route of the head, and what its parameters took of the target
abbrev pub HasRoute : RequestHead → Result (Route × Parts) HttpFault → Type 0
HasRoute head (Ok found) = routed head.method head.target ≡ Some found
HasRoute head (Err NoSuchRoute) = routed head.method head.target ≡ None
HasRoute head (Err OutOfMemory) = ⊤
HasRoute head (Err _) = ⊥

-- the caller whom the route takes
abbrev pub HasCaller : List ℕ → CodeOf → Route → RequestHead → Result Caller HttpFault → Type 0
HasCaller operator code_of route head outcome =
    (key : Option (List ℕ)) × HasKey (fields_of head) key × (outcome ≡ caller_under operator code_of route key)

-- the body of this many bytes, from what comes after the region
abbrev pub HasBody : List ℕ → ℕ → Result (List ℕ) HttpFault → Type 0
HasBody rest size (Ok body) = (size ≤ length rest) × (body ≡ take size rest)
HasBody rest size (Err Truncated) = length rest < size
HasBody rest size (Err OutOfMemory) = ⊤
HasBody rest size (Err _) = ⊥

-- What the input asks for under the operator's digest, where the participants have these digests.
abbrev pub AsksFor : List ℕ → CodeOf → List ℕ → Answer → Type 0
AsksFor operator code_of input =
    Then (HasRegion input) (λ parts.
    Then (HasHead parts.0) (λ read.
    Then (HasRoute read.0) (λ found.
    Then (HasCaller operator code_of found.0 read.0) (λ caller.
    Then (λ outcome. outcome ≡ body_length (is_post read.0.method) read.1) (λ size.
    Then (HasBody parts.1 size) (λ body.
    Means caller found.1 body))))))
