-- What follows each step of a request.
use Rattle.std.proofs.Common.{◌≡◌, ℕ, List, Option}
use Rattle.httparse.specs.Grammar.{RequestHead}
use Rattle.rtgs_http_requests.specs.heads.Parameters.{Parts}
use Rattle.rtgs_http_requests.specs.heads.Targets.{is_post}
use Rattle.rtgs_http_requests.specs.declared.heads.route.Route.{Route}
use Rattle.rtgs_http_requests.specs.Bodies.{body_length}
use Rattle.rtgs_http_requests.specs.Callers.{Caller, CodeOf}
use Rattle.rtgs_http_requests.specs.Exchange.{HasHead, HasRoute, HasCaller, HasBody}
use Rattle.rtgs_http_requests.specs.Meaning.{Answer, Means}
use Rattle.rtgs_http_requests.specs.Steps.{Then}

abbrev pub after_size : List ℕ → Parts → Caller → ℕ → Answer → Type 0
after_size rest parts caller size = Then (HasBody rest size) (λ body. Means caller parts body)

abbrev pub after_caller : RequestHead → Option ℕ → List ℕ → Parts → Caller → Answer → Type 0
after_caller head declared rest parts caller =
    Then (λ outcome. outcome ≡ body_length (is_post head.method) declared) (after_size rest parts caller)

abbrev pub after_route : List ℕ → CodeOf → List ℕ → RequestHead → Option ℕ → Route × Parts → Answer → Type 0
after_route operator code_of rest head declared found =
    Then (HasCaller operator code_of found.0 head) (after_caller head declared rest found.1)

abbrev pub after_head : List ℕ → CodeOf → List ℕ → RequestHead × Option ℕ → Answer → Type 0
after_head operator code_of rest read = Then (HasRoute read.0) (after_route operator code_of rest read.0 read.1)

abbrev pub after_region : List ℕ → CodeOf → List ℕ × List ℕ → Answer → Type 0
after_region operator code_of parts = Then (HasHead parts.0) (after_head operator code_of parts.1)
