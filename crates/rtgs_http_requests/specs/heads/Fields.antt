-- The fields of a head, as pairs of a name and a value without the white space around it.
use Rattle.std.specs.Prelude.{◌≡◌, ◌≤◌, ℕ, List, [], ◌∷◌, length, map, codes, Option, Some, None, IfSome}
use Rattle.std.specs.List.{filter}
use Rattle.std.specs.Str.{str_eq_ignore_ascii_case}
use Rattle.std.specs.Str.Parse.{IsNumeral, digits_value}
use Rattle.sha2.specs.Sha256.{sha256}
use Rattle.rtgs_money.specs.Forms.{IsKey}
use Rattle.rtgs_http_requests.specs.declared.heads.limits.TheConstants.{MOST_DIGITS}

abbrev pub Fields : Type 0
Fields = List (List ℕ × List ℕ)

-- the values of the fields with this name, whatever the case of its letters, in their order
abbrev pub values_of : List ℕ → Fields → List (List ℕ)
values_of name fields = map (λ field. field.1) (filter (λ field. str_eq_ignore_ascii_case field.0 name) fields)

-- 1 to MOST_DIGITS digits
abbrev pub IsShortNumber : List ℕ → Type 0
IsShortNumber digits = IsNumeral 10 digits × (length digits ≤ MOST_DIGITS)

-- There is no value and no length, or the one value is the length in 1 to MOST_DIGITS digits.
abbrev pub Declares : List (List ℕ) → Option ℕ → Type 0
Declares values None = values ≡ []
Declares values (Some length) =
    (digits : List ℕ) × (values ≡ digits ∷ []) × IsShortNumber digits × (length ≡ digits_value 10 digits)

-- No coding is named, and this length is declared, or none. A GET declares nothing above 0.
pub record HasLength (method : List ℕ) (fields : Fields) (length : Option ℕ) : Type 0 where
  pub uncoded : values_of (codes "transfer-encoding") fields ≡ []
  pub declared : Declares (values_of (codes "content-length") fields) length
  pub empty_get : method ≡ codes "GET" → IfSome length (λ n. n ≡ 0)

-- There is exactly one key field, its value is a key and this is its digest; or there is no such field.
abbrev pub HasKey : Fields → Option (List ℕ) → Type 0
HasKey fields (Some digest) =
    (key : List ℕ) × (values_of (codes "desk-key") fields ≡ key ∷ []) × IsKey key × (digest ≡ sha256 key)
HasKey fields None = (key : List ℕ) → values_of (codes "desk-key") fields ≡ key ∷ [] → ¬ IsKey key
