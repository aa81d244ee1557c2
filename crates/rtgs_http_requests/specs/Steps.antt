-- Steps that run in order, where the first fault is the answer.
use Rattle.std.specs.Prelude.{◌≡◌, Result, Ok, Err}
use Rattle.rtgs_http_requests.specs.declared.http_fault.HttpFault.{HttpFault}
use Rattle.rtgs_http_requests.specs.declared.http_fault.HttpFault.TheVariants.{OutOfMemory}

-- what follows a step with this outcome: a fault is the answer, and with a value the next step goes on
abbrev pub Goes : {A B : Type 0} → (A → Result B HttpFault → Type 0) → Result B HttpFault → Result A HttpFault → Type 0
Goes next answer (Ok value) = next value answer
Goes next answer (Err fault) = answer ≡ Err fault

-- one step, and then the next
abbrev pub Then : {A B : Type 0}
    → (Result A HttpFault → Type 0) → (A → Result B HttpFault → Type 0) → Result B HttpFault → Type 0
Then {A} Step next answer = (outcome : Result A HttpFault) × Step outcome × Goes next answer outcome

-- It is not so that a step tells nothing, or nothing but that memory was refused.
abbrev pub HasAnswer : {A : Type 0} → (Result A HttpFault → Type 0) → Type 0
HasAnswer {A} Step = ¬ ((outcome : Result A HttpFault) → Step outcome → outcome ≡ Err OutOfMemory)
