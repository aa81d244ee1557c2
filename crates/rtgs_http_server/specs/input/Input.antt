-- What is read of an input.
use Rattle.std.specs.Prelude.{◌≡◌, ⊤, ℕ, List, ◌++◌, Option, Some, None, Result, Ok, Err}
use Rattle.rtgs_http_requests.specs.declared.heads.bank_route.BankRoute.{BankRoute}
use Rattle.rtgs_http_requests.specs.Callers.{Caller, CodeOf}
use Rattle.rtgs_http_requests.specs.Exchange.{AsksFor}
use Rattle.rtgs_http_requests.specs.Plans.{PlanLooksUp, admitted_by}
use Rattle.rtgs_http_requests.specs.declared.admitted.Admitted.TheVariants.{Bank}
use Rattle.rtgs_http_requests.specs.declared.asked.Asked.{Asked}
use Rattle.rtgs_http_requests.specs.declared.http_fault.HttpFault.{HttpFault}
use Rattle.rtgs_http_server.specs.declared.input.unread.Unread.{Unread}
use Rattle.rtgs_http_server.specs.declared.input.unread.Unread.TheVariants.{Reader, DirectoryFailed, Faulty}

-- It holds of the bytes that a reader has left. Where they are not known, there are bytes of which it holds.
abbrev pub OfInput : Option (List ℕ) → (List ℕ → Type 0) → Type 0
OfInput (Some left) P = P left
OfInput None P = (left : List ℕ) × P left

-- It holds of these bytes and then what a reader has left.
abbrev pub Behind : List ℕ → Option (List ℕ) → (List ℕ → Type 0) → Type 0
Behind first left P = OfInput left (λ rest. P (first ++ rest))

-- A step that asks no directory has this fault. Where the reader fails, nothing is said of the step.
abbrev pub StepFails : (HttpFault → Type 0) → Unread → Type 0
StepFails IsFault (Reader failed) = ⊤
StepFails IsFault DirectoryFailed = ⊥
StepFails IsFault (Faulty fault) = IsFault fault

-- the outcome of a step that asks no directory is what the step tells
abbrev pub Says : {X : Type 0} → (Result X HttpFault → Type 0) → Result X Unread → Type 0
Says Step (Ok value) = Step (Ok value)
Says Step (Err unread) = StepFails (λ fault. Step (Err fault)) unread

-- The caller who is known by a digest is this one for some participants, and whoever the participants are that the
-- directory knows. It has failed only where the caller is to be looked up. Nothing is read.
abbrev pub FindsCaller : (CodeOf → Type 0) → Caller → Result Caller Unread → Type 0
FindsCaller Knows bearer (Ok caller) =
    ((code_of : CodeOf) × (Ok caller ≡ admitted_by code_of bearer))
    × ((code_of : CodeOf) → Knows code_of → Ok caller ≡ admitted_by code_of bearer)
FindsCaller Knows bearer (Err (Faulty fault)) =
    (code_of : CodeOf) → Knows code_of → Err fault ≡ admitted_by code_of bearer
FindsCaller Knows bearer (Err DirectoryFailed) =
    (route : BankRoute) × (digest : List ℕ) × (bearer ≡ Bank route digest)
FindsCaller Knows bearer (Err (Reader failed)) = ⊥

-- What the input asks for, or its fault, is this one, whoever the participants are that the directory knows. Even if
-- these may be none, there are participants for whom this is asked. The directory has failed only where the caller is
-- to be looked up. Where the reader fails, nothing is said.
abbrev pub Requests : (CodeOf → Type 0) → List ℕ → List ℕ → Result Asked Unread → Type 0
Requests Knows operator input (Ok asked) =
    ((code_of : CodeOf) × AsksFor operator code_of input (Ok asked))
    × ((code_of : CodeOf) → Knows code_of → AsksFor operator code_of input (Ok asked))
Requests Knows operator input (Err (Faulty fault)) =
    (code_of : CodeOf) → Knows code_of → AsksFor operator code_of input (Err fault)
Requests Knows operator input (Err DirectoryFailed) = PlanLooksUp operator input
Requests Knows operator input (Err (Reader failed)) = ⊤
