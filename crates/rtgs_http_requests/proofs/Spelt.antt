-- A text spells one code, one reference and one date, or has a fault.
use Rattle.std.proofs.Common.{◌≡◌, ◌⊎◌, inl, inr, ℕ, List, Result, Ok, Err, refl, sym, ◌∙◌}
use Rattle.rtgs_money.specs.Date.{IsBusinessDate, date_text}
use Rattle.rtgs_money.specs.Forms.{IsCode, IsReference, is_code, is_reference}
use Rattle.rtgs_money.specs.declared.lexical.Lexical.TheVariants.{BadCode, BadReference, BadDate}
use Rattle.rtgs_http_requests.specs.Spelling.{SpellsCode, SpellsReference, SpellsDate}
use Rattle.rtgs_http_requests.specs.Steps.{HasAnswer}
use Rattle.rtgs_http_requests.specs.declared.http_fault.HttpFault.{HttpFault}
use Rattle.rtgs_http_requests.specs.declared.http_fault.HttpFault.TheVariants as fault
use Rattle.rtgs_http_requests.proofs.Agreement.{IsDetermined, Tells, once_outcome, equal_outcome}
use Rattle.rtgs_http_requests.proofs.Answered.{outcome_answered}
use Rattle.rtgs_http_requests.proofs.Decisions.{truth}
use Rattle.rtgs_http_requests.proofs.Lower.{LowerLaws}

pub code_once : (text : List ℕ) → IsDetermined (SpellsCode text)
code_once text one other x y = by (truth (is_code text))
  where
    by : IsCode text ⊎ (¬ IsCode text) → (one ≡ Err fault.OutOfMemory)
        ⊎ ((other ≡ Err fault.OutOfMemory) ⊎ (one ≡ other))
    by (inl good) = equal_outcome _ one other (x.found good) (y.found good)
    by (inr bad) = equal_outcome _ one other (x.refused bad) (y.refused bad)

pub reference_once : (text : List ℕ) → IsDetermined (SpellsReference text)
reference_once text one other x y = by (truth (is_reference text))
  where
    by : IsReference text ⊎ (¬ IsReference text) → (one ≡ Err fault.OutOfMemory)
        ⊎ ((other ≡ Err fault.OutOfMemory) ⊎ (one ≡ other))
    by (inl good) = equal_outcome _ one other (x.found good) (y.found good)
    by (inr bad) = equal_outcome _ one other (x.refused bad) (y.refused bad)

abbrev IsDateOf : List ℕ → ℕ → Type 0
IsDateOf text date = IsBusinessDate date × (text ≡ date_text date)

tells_date : (text : List ℕ) (outcome : Result ℕ HttpFault) → SpellsDate text outcome
    → Tells (IsDateOf text) (fault.Form BadDate) outcome
tells_date text (Ok date) x = inl (date, refl, x)
tells_date text (Err (fault.Form BadDate)) none = inr (inl (refl, λ date has. none date has.0 has.1))
tells_date text (Err _) x = absurd x

pub date_once : LowerLaws → (text : List ℕ) → IsDetermined (SpellsDate text)
date_once laws text one other x y =
    once_outcome (IsDateOf text) (fault.Form BadDate) (λ a b p q. laws.dates a b p.0 q.0 (sym p.1 ∙ q.1)) one other
    (tells_date text one x) (tells_date text other y)

-- the answer is this one, whatever the outcome of the step before
pub equal_once : {A B : Type 0} (answer : A → Result B HttpFault) (value : A)
    → IsDetermined (λ (outcome : Result B HttpFault). outcome ≡ answer value)
equal_once answer value one other x y = equal_outcome (answer value) one other x y

pub code_answered : (text : List ℕ) → HasAnswer (SpellsCode text)
code_answered text none = by (truth (is_code text))
  where
    by : ¬ (IsCode text ⊎ (¬ IsCode text))
    by (inl good) = let clash = none (Ok text) (record { found = λ _. refl; refused = λ bad. absurd (bad good) }) in cc
    by (inr bad) = let clash = none (Err (fault.Form BadCode))
        (record { found = λ good. absurd (bad good); refused = λ _. refl }) in cc

pub reference_answered : (text : List ℕ) → HasAnswer (SpellsReference text)
reference_answered text none = by (truth (is_reference text))
  where
    by : ¬ (IsReference text ⊎ (¬ IsReference text))
    by (inl good) = let clash = none (Ok text) (record { found = λ _. refl; refused = λ bad. absurd (bad good) }) in cc
    by (inr bad) = let clash = none (Err (fault.Form BadReference))
        (record { found = λ good. absurd (bad good); refused = λ _. refl }) in cc

pub date_answered : (text : List ℕ) → HasAnswer (SpellsDate text)
date_answered text =
    outcome_answered (IsDateOf text) (fault.Form BadDate) (SpellsDate text) (λ e. cc) (λ date has. has)
    (λ none date is e. none date (is, e))
