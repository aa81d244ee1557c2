-- A body that is no order has one content, and one meaning.
use Rattle.std.proofs.Common.{◌≡◌, ◌⊎◌, inl, inr, ℕ, ℤ, Bool, List, Some, Result, Ok, Err, refl, sym, ap}
use Rattle.std.proofs.Common.{◌∙◌, IsUtf8}
use Rattle.serde_json.specs.Data.{Data}
use Rattle.serde_json.specs.Find.{as_integer}
use Rattle.serde_json.specs.Read.{read}
use Rattle.rtgs_money.specs.Amounts.{IsPostingAmount, IsCredit}
use Rattle.rtgs_money.specs.Forms.{IsCode, IsReference, is_code, is_reference}
use Rattle.rtgs_http_requests.specs.Bodies.{ReadsJson}
use Rattle.rtgs_http_requests.specs.Contents.{FindsContent, HasPosting, HasCredit, HasDate, HasOpening, HasNothing}
use Rattle.rtgs_http_requests.specs.Meaning.{IsPostingOf, SpellsCredit}
use Rattle.rtgs_http_requests.specs.declared.http_fault.HttpFault.{HttpFault}
use Rattle.rtgs_http_requests.specs.declared.http_fault.HttpFault.TheVariants as fault
use Rattle.rtgs_http_requests.proofs.Agreement.{IsDetermined, Tells, once_outcome, equal_outcome}
use Rattle.rtgs_http_requests.proofs.Decisions.{truth, credit, posting}

-- ---- the value of JSON

abbrev Spells : List ℕ → Data → Type 0
Spells body value = IsUtf8 body × (read body ≡ Some value)

tells_json : (body : List ℕ) (outcome : Result Data HttpFault) → ReadsJson body outcome
    → Tells (Spells body) fault.BadJson outcome
tells_json body (Ok value) x = inl (value, refl, x)
tells_json body (Err fault.BadJson) none = inr (inl (refl, λ value has. let no : ⊥ = cc (has.1, none has.0) in no))
tells_json body (Err fault.OutOfMemory) x = inr (inr refl)
tells_json body (Err _) x = absurd x

one_value : (body : List ℕ) (one other : Data) → Spells body one → Spells body other → one ≡ other
one_value body one other x y =
    let same : Some one ≡ Some other = sym x.1 ∙ y.1 in
    cc

pub json_once : (body : List ℕ) → IsDetermined (ReadsJson body)
json_once body one other x y = once_outcome (Spells body) fault.BadJson (one_value body) one other
    (tells_json body one x)
    (tells_json body other y)

-- ---- the content of a value

tells_content : {A : Type 0} (Has : A → Data → Type 0) (value : Data) (outcome : Result A HttpFault)
    → FindsContent Has value outcome → Tells (λ content. Has content value) fault.WrongFields outcome
tells_content Has value (Ok content) x = inl (content, refl, x)
tells_content Has value (Err fault.WrongFields) none = inr (inl (refl, none))
tells_content Has value (Err _) x = absurd x

pub content_once : {A : Type 0} (Has : A → Data → Type 0)
    → ((value : Data) (one other : A) → Has one value → Has other value → one ≡ other) → (value : Data)
    → IsDetermined (FindsContent Has value)
content_once Has same value one other x y =
    once_outcome (λ content. Has content value) fault.WrongFields (same value) one other (tells_content Has value one x)
    (tells_content Has value other y)

same_three : {A B C : Type 0} (one other : A × B × C) → one.0 ≡ other.0 → one.1 ≡ other.1 → one.2 ≡ other.2
    → one ≡ other
same_three {A} {B} {C} one other p q r =
    let first : A → A × B × C = λ a. (a, one.1, one.2) in
    let second : B → A × B × C = λ b. (other.0, b, one.2) in
    let third : C → A × B × C = λ c. (other.0, other.1, c) in
    ap first p ∙ ap second q ∙ ap third r

pub same_two : {A B : Type 0} (one other : A × B) → one.0 ≡ other.0 → one.1 ≡ other.1 → one ≡ other
same_two {A} {B} one other p q =
    let first : A → A × B = λ a. (a, one.1) in
    let second : B → A × B = λ b. (other.0, b) in
    ap first p ∙ ap second q

pub one_posting : (value : Data) (one other : List ℕ × List ℕ × ℤ) → HasPosting one value → HasPosting other value
    → one ≡ other
one_posting value one other x y =
    let code : one.0 ≡ other.0 = cc (x.2, y.2) in
    let reference : one.1 ≡ other.1 = cc (x.2, y.2) in
    let whole : x.0 ≡ y.0 = cc (x.2, y.2) in
    let some : Some one.2 ≡ Some other.2 = sym x.1 ∙ ap (λ n. as_integer n) whole ∙ y.1 in
    let cents : one.2 ≡ other.2 = cc in
    same_three one other code reference cents

pub one_credit : (value : Data) (one other : List ℕ × ℕ) → HasCredit one value → HasCredit other value → one ≡ other
one_credit value one other x y =
    let code : one.0 ≡ other.0 = cc (x, y) in
    let credit : one.1 ≡ other.1 = cc (x, y) in
    same_two one other code credit

pub one_date : (value : Data) (one other : List ℕ) → HasDate one value → HasDate other value → one ≡ other
one_date value one other x y = cc (x, y)

pub one_opening : (value : Data) (one other : List ℕ × Bool) → HasOpening one value → HasOpening other value
    → one ≡ other
one_opening value (date, automatic) (day, choice) (inl x) (inl y) = same_two _ _ (cc (x, y)) (cc (x, y))
one_opening value (date, automatic) (day, choice) (inl x) (inr y) = let no : ⊥ = cc (x, y.1) in absurd no
one_opening value (date, automatic) (day, choice) (inr x) (inl y) = let no : ⊥ = cc (x.1, y) in absurd no
one_opening value (date, automatic) (day, choice) (inr x) (inr y) = same_two _ _ (cc (x.1, y.1)) (x.0 ∙ sym y.0)

pub one_nothing : (value : Data) (one other : Unit {0}) → HasNothing value → HasNothing value → one ≡ other
one_nothing value one other x y = refl

-- ---- what values spell

pub posting_once : (values : List ℕ × List ℕ × ℤ) → IsDetermined (IsPostingOf values)
posting_once values one other x y = by (truth (is_code values.0)) (truth (is_reference values.1)) (posting values.2)
  where
    by : IsCode values.0 ⊎ (¬ IsCode values.0) → IsReference values.1 ⊎ (¬ IsReference values.1)
        → IsPostingAmount values.2 ⊎ (¬ IsPostingAmount values.2)
        → (one ≡ Err fault.OutOfMemory) ⊎ ((other ≡ Err fault.OutOfMemory) ⊎ (one ≡ other))
    by (inl t) (inl r) (inl a) = equal_outcome _ one other (x.found t r a) (y.found t r a)
    by (inl t) (inl r) (inr a) = equal_outcome _ one other (x.bad_amount t r a) (y.bad_amount t r a)
    by (inl t) (inr r) _ = equal_outcome _ one other (x.bad_reference t r) (y.bad_reference t r)
    by (inr t) _ _ = equal_outcome _ one other (x.bad_code t) (y.bad_code t)

pub credit_once : (values : List ℕ × ℕ) → IsDetermined (SpellsCredit values)
credit_once values one other x y = by (truth (is_code values.0)) (credit values.1)
  where
    by : IsCode values.0 ⊎ (¬ IsCode values.0) → IsCredit values.1 ⊎ (¬ IsCredit values.1)
        → (one ≡ Err fault.OutOfMemory) ⊎ ((other ≡ Err fault.OutOfMemory) ⊎ (one ≡ other))
    by (inl t) (inl a) = equal_outcome _ one other (x.found t a) (y.found t a)
    by (inl t) (inr a) = equal_outcome _ one other (x.bad_amount t a) (y.bad_amount t a)
    by (inr t) _ = equal_outcome _ one other (x.bad_code t) (y.bad_code t)
