-- Whom a route takes.
use Rattle.std.specs.Prelude.{◌≡◌, ◌≢◌, ℕ, List, Option, Some, None, Result, Ok, Err, if◌then◌else◌}
use Rattle.std.specs.Str.{bytes_eq}
use Rattle.rtgs_http_requests.specs.declared.heads.bank_route.BankRoute.{BankRoute}
use Rattle.rtgs_http_requests.specs.declared.heads.route.Route.{Route}
use Rattle.rtgs_http_requests.specs.declared.heads.route.Route.TheVariants.{Bank, Operator}
use Rattle.rtgs_http_requests.specs.declared.admitted.Admitted.{Admitted}
use Rattle.rtgs_http_requests.specs.declared.admitted.Admitted.TheVariants as admitted
use Rattle.rtgs_http_requests.specs.declared.http_fault.HttpFault.{HttpFault}
use Rattle.rtgs_http_requests.specs.declared.http_fault.HttpFault.TheVariants.{NoKey}

-- the caller whom a route takes, a participant by the digest of its key or by its code
abbrev pub Caller : Type 0
Caller = Admitted (List ℕ)

-- the participant with each digest, if there is one
abbrev pub CodeOf : Type 0
CodeOf = List ℕ → Option (List ℕ)

-- a route of banks takes the participant with the digest
abbrev pub known : BankRoute → Option (List ℕ) → Result Caller HttpFault
known route None = Err NoKey
known route (Some code) = Ok (admitted.Bank route code)

-- the bearer of a digest: the operator first, else the participant who has it
abbrev pub bearer : List ℕ → CodeOf → Route → List ℕ → Result Caller HttpFault
bearer operator code_of (Operator route) digest =
    if bytes_eq digest operator then Ok (admitted.Operator route) else Err NoKey
bearer operator code_of (Bank route) digest =
    if bytes_eq digest operator then Err NoKey else known route (code_of digest)

-- the caller with this key, or with none, under a route
abbrev pub caller_under : List ℕ → CodeOf → Route → Option (List ℕ) → Result Caller HttpFault
caller_under operator code_of route None = Err NoKey
caller_under operator code_of route (Some digest) = bearer operator code_of route digest

-- What is known before the participants are, whoever they are. A caller is to be looked up under a route of banks, with
-- a key that is not the operator's.
abbrev pub LeadsToCaller : List ℕ → Route → Option (List ℕ) → Result Caller HttpFault → Type 0
LeadsToCaller operator route key (Ok (admitted.Operator served)) =
    (code_of : CodeOf) → caller_under operator code_of route key ≡ Ok (admitted.Operator served)
LeadsToCaller operator route key (Ok (admitted.Bank served digest)) =
    (route ≡ Bank served) × (key ≡ Some digest) × (digest ≢ operator)
    × ((code_of : CodeOf) → caller_under operator code_of route key ≡ known served (code_of digest))
LeadsToCaller operator route key (Err fault) = (code_of : CodeOf) → caller_under operator code_of route key ≡ Err fault
