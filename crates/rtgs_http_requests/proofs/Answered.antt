-- Steps that tell more than that memory ran out.
use Rattle.std.proofs.Common.{◌≡◌, Result, Ok, Err, refl, ap}
use Rattle.std.specs.Prelude.{◌≢◌}
use Rattle.rtgs_http_requests.specs.Steps.{Then, HasAnswer}
use Rattle.rtgs_http_requests.specs.declared.http_fault.HttpFault.{HttpFault}
use Rattle.rtgs_http_requests.specs.declared.http_fault.HttpFault.TheVariants.{OutOfMemory}

-- one step and then the next
pub then_answered : {A B : Type 0} (Step : Result A HttpFault → Type 0) (next : A → Result B HttpFault → Type 0)
    → HasAnswer Step → ((value : A) → HasAnswer (next value)) → HasAnswer (Then Step next)
then_answered {A} {B} Step next step go none = step by
  where
    by : (outcome : Result A HttpFault) → Step outcome → outcome ≡ Err OutOfMemory
    by (Ok value) is = absurd (go value (λ answer follows. none answer (Ok value, is, follows)))
    by (Err bad) is =
        let clash : ◌≡◌ {A = Result B HttpFault} (Err bad) (Err OutOfMemory) = none (Err bad) (Err bad, is, refl) in
        let same : bad ≡ OutOfMemory = cc in
        ap (λ f. Err f) same

-- a value where one is, and else a fault
pub outcome_answered : {A : Type 0} (Holds : A → Type 0) (bad : HttpFault) (Step : Result A HttpFault → Type 0)
    → bad ≢ OutOfMemory
    → ((value : A) → Holds value → Step (Ok value)) → (((value : A) → ¬ Holds value) → Step (Err bad)) → HasAnswer Step
outcome_answered {A} Holds bad Step other good fails none = other same
  where
    no_value : (value : A) → ¬ Holds value
    no_value value holds = let clash = none (Ok value) (good value holds) in cc

    same : bad ≡ OutOfMemory
    same = let clash = none (Err bad) (fails no_value) in cc

-- this answer, which is no lack of memory
pub equal_answered : {A : Type 0} (answer : Result A HttpFault) → answer ≢ Err OutOfMemory
    → HasAnswer (λ (outcome : Result A HttpFault). outcome ≡ answer)
equal_answered answer other none = other (none answer refl)

-- a value that follows
pub value_answered : {A : Type 0} (value : A) → HasAnswer (λ (outcome : Result A HttpFault). outcome ≡ Ok value)
value_answered value none = let clash = none (Ok value) refl in cc
