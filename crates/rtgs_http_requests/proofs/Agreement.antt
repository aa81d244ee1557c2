-- Steps that tell one thing, except for lack of memory.
use Rattle.std.proofs.Common.{◌≡◌, ◌⊎◌, inl, inr, Result, Ok, Err, refl, sym, ap, subst, ◌∙◌}
use Rattle.rtgs_http_requests.specs.Steps.{Then, Goes}
use Rattle.rtgs_http_requests.specs.declared.http_fault.HttpFault.{HttpFault}
use Rattle.rtgs_http_requests.specs.declared.http_fault.HttpFault.TheVariants.{OutOfMemory}

-- one of the two is a lack of memory, or they are related
abbrev pub Agree : {A : Type 0} → (Result A HttpFault → Result A HttpFault → Type 0)
    → Result A HttpFault → Result A HttpFault → Type 0
Agree {A} R one other = (one ≡ Err OutOfMemory) ⊎ ((other ≡ Err OutOfMemory) ⊎ R one other)

abbrev pub Equal : {A : Type 0} → Result A HttpFault → Result A HttpFault → Type 0
Equal {A} one other = one ≡ other

-- what a step tells is determined
abbrev pub IsDetermined : {A : Type 0} → (Result A HttpFault → Type 0) → Type 0
IsDetermined {A} Step = (one other : Result A HttpFault) → Step one → Step other → Agree Equal one other

-- a value of which this holds, or this fault where it holds of none, or a lack of memory
abbrev pub Tells : {A : Type 0} → (A → Type 0) → HttpFault → Result A HttpFault → Type 0
Tells {A} Holds bad outcome =
    ((value : A) × (outcome ≡ Ok value) × Holds value)
    ⊎ (((outcome ≡ Err bad) × ((value : A) → ¬ Holds value)) ⊎ (outcome ≡ Err OutOfMemory))

pub once_outcome : {A : Type 0} (Holds : A → Type 0) (bad : HttpFault)
    → ((one other : A) → Holds one → Holds other → one ≡ other)
    → (one other : Result A HttpFault) → Tells Holds bad one → Tells Holds bad other → Agree Equal one other
once_outcome Holds bad same one other (inl x) (inl y) =
    inr (inr (x.1 ∙ ap (λ v. Ok v) (same x.0 y.0 x.2 y.2) ∙ sym y.1))
once_outcome Holds bad same one other (inl x) (inr (inl y)) = absurd (y.1 x.0 x.2)
once_outcome Holds bad same one other (inl x) (inr (inr e)) = inr (inl e)
once_outcome Holds bad same one other (inr (inl x)) (inl y) = absurd (x.1 y.0 y.2)
once_outcome Holds bad same one other (inr (inl x)) (inr (inl y)) = inr (inr (x.0 ∙ sym y.0))
once_outcome Holds bad same one other (inr (inl x)) (inr (inr e)) = inr (inl e)
once_outcome Holds bad same one other (inr (inr e)) _ = inl e

-- one step and then the next: where each is determined, so is the whole
pub then_once : {A B : Type 0} (R : Result B HttpFault → Result B HttpFault → Type 0)
    → ((bad : HttpFault) → R (Err bad) (Err bad))
    → (Step : Result A HttpFault → Type 0) (next : A → Result B HttpFault → Type 0) → IsDetermined Step
    → ((value : A) (one other : Result B HttpFault) → next value one → next value other → Agree R one other)
    → (one other : Result B HttpFault) → Then Step next one → Then Step next other → Agree R one other
then_once {A} {B} R same Step next once go one other x y = by x.0 y.0 (once x.0 y.0 x.1 y.1) x.2 y.2
  where
    both : (outcome : Result A HttpFault) → Goes next one outcome → Goes next other outcome → Agree R one other
    both (Ok value) p q = go value one other p q
    both (Err bad) p q =
        inr (inr (subst (λ t. R t other) (sym p) (subst (λ t. R (Err bad) t) (sym q) (same bad))))

    by : (first second : Result A HttpFault) → Agree Equal first second → Goes next one first → Goes next other second
        → Agree R one other
    by first second (inl e) p q = inl (subst (λ t. Goes next one t) e p)
    by first second (inr (inl e)) p q = inr (inl (subst (λ t. Goes next other t) e q))
    by first second (inr (inr e)) p q = both second (subst (λ t. Goes next one t) e p) q

-- the same where answers are equal
pub then_determined : {A B : Type 0} (Step : Result A HttpFault → Type 0) (next : A → Result B HttpFault → Type 0)
    → IsDetermined Step → ((value : A) → IsDetermined (next value)) → IsDetermined (Then Step next)
then_determined {A} {B} Step next once go = then_once Equal (λ bad. refl) Step next once go

-- an equation determines
pub equal_outcome : {A : Type 0} (answer one other : Result A HttpFault) → one ≡ answer → other ≡ answer
    → Agree Equal one other
equal_outcome answer one other p q = inr (inr (p ∙ sym q))
