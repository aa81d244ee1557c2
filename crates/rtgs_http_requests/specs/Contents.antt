-- The values that bodies other than an order's are to have: objects with exactly these keys.
use Rattle.std.specs.Prelude.{◌≡◌, ◌⊎◌, ℕ, ℤ, Bool, false, List, codes, Some, Result, Ok, Err}
use Rattle.serde_json.specs.Data.{Data, Num, unsigned, boolean, number, string, object, member, no_members}
use Rattle.serde_json.specs.Find.{as_integer}
use Rattle.rtgs_http_requests.specs.declared.http_fault.HttpFault.{HttpFault}
use Rattle.rtgs_http_requests.specs.declared.http_fault.HttpFault.TheVariants.{WrongFields}

-- a code, a reference and a whole number of cents
abbrev pub HasPosting : List ℕ × List ℕ × ℤ → Data → Type 0
HasPosting (code, reference, cents) value =
    (whole : Num) × (as_integer whole ≡ Some cents)
    × (value ≡ object (member (codes "cents") (number whole)
    (member (codes "code") (string code) (member (codes "reference") (string reference) no_members))))

-- a code and a limit that is not negative
abbrev pub HasCredit : List ℕ × ℕ → Data → Type 0
HasCredit (code, credit) value =
    value ≡ object (member (codes "code") (string code) (member (codes "credit") (number (unsigned credit)) no_members))

abbrev pub HasDate : List ℕ → Data → Type 0
HasDate date value = value ≡ object (member (codes "date") (string date) no_members)

-- a date and a choice
abbrev pub HasChoice : List ℕ × Bool → Data → Type 0
HasChoice (date, automatic) value =
    value ≡ object (member (codes "automatic") (boolean automatic) (member (codes "date") (string date) no_members))

-- a date and a choice, or a date alone, which is the choice of no
abbrev pub HasOpening : List ℕ × Bool → Data → Type 0
HasOpening (date, automatic) value =
    HasChoice (date, automatic) value ⊎ ((automatic ≡ false) × HasDate date value)

abbrev pub HasNothing : Data → Type 0
HasNothing value = value ≡ object no_members

-- The value has this content, or it has none of the kind.
abbrev pub FindsContent : {A : Type 0} → (A → Data → Type 0) → Data → Result A HttpFault → Type 0
FindsContent {A} Has value (Ok content) = Has content value
FindsContent {A} Has value (Err WrongFields) = (content : A) → ¬ Has content value
FindsContent {A} Has value (Err _) = ⊥
