-- The values that texts spell.
use Rattle.std.specs.Prelude.{◌≡◌, ◌≢◌, ℕ, List, Result, Ok, Err}
use Rattle.rtgs_money.specs.Date.{IsBusinessDate, date_text}
use Rattle.rtgs_money.specs.Forms.{IsCode, IsReference}
use Rattle.rtgs_money.specs.declared.lexical.Lexical.TheVariants.{BadCode, BadReference, BadDate}
use Rattle.rtgs_http_requests.specs.declared.http_fault.HttpFault.{HttpFault}
use Rattle.rtgs_http_requests.specs.declared.http_fault.HttpFault.TheVariants as fault

-- the code that a text is
pub record SpellsCode (text : List ℕ) (outcome : Result (List ℕ) HttpFault) : Type 0 where
  pub found : IsCode text → outcome ≡ Ok text
  pub refused : ¬ IsCode text → outcome ≡ Err (fault.Form BadCode)

-- the reference that a text is
pub record SpellsReference (text : List ℕ) (outcome : Result (List ℕ) HttpFault) : Type 0 where
  pub found : IsReference text → outcome ≡ Ok text
  pub refused : ¬ IsReference text → outcome ≡ Err (fault.Form BadReference)

-- the date that a text is, weekends too
abbrev pub SpellsDate : List ℕ → Result ℕ HttpFault → Type 0
SpellsDate text (Ok date) = IsBusinessDate date × (text ≡ date_text date)
SpellsDate text (Err (fault.Form BadDate)) = (date : ℕ) → IsBusinessDate date → text ≢ date_text date
SpellsDate text (Err _) = ⊥
