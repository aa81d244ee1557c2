-- What the words of a run ask for.
use Rattle.std.specs.Prelude.{◌≡◌, ℕ, ℤ, Bool, List, [], ◌∷◌, if◌then◌else◌, Result, Ok, Err, decimal}
use Rattle.std.specs.Fmt.{signed_decimal}
use Rattle.sha2.specs.Sha256.{sha256}
use Rattle.rtgs_money.specs.Amounts.{IsPostingAmount, IsCredit}
use Rattle.rtgs_money.specs.Date.{IsBusinessDate, date_text}
use Rattle.rtgs_money.specs.Forms.{IsCode, IsReference, IsName, IsKey}
use Rattle.rtgs_money.specs.declared.lexical.Lexical.{Lexical}
use Rattle.rtgs_money.specs.declared.lexical.Lexical.TheVariants.{BadCode, BadReference, BadAmount, BadName, BadKey}
use Rattle.rtgs_money.specs.declared.lexical.Lexical.TheVariants.{BadDate}
use Rattle.rtgs_book.specs.declared.command.Command.{Command}
use Rattle.rtgs_book.specs.declared.command.Command.TheVariants as command

-- the first character is a dash
abbrev pub IsSigned : List ℕ → Type 0
IsSigned [] = ⊥
IsSigned (byte ∷ bytes) = byte ≡ 45

-- the word, after a dash where it is a debit, is this posting
abbrev pub SpellsPosting : List ℕ → Bool → ℤ → Type 0
SpellsPosting cents debit posting =
    IsPostingAmount posting × (signed_decimal posting ≡ (if debit then 45 ∷ cents else cents))

-- the words of an addition, judged from left to right
pub record ReadsAdd (code name key : List ℕ) (result : Result Command Lexical) : Type 0 where
  pub found : IsCode code → IsName name → IsKey key → result ≡ Ok (command.Add code name (sha256 key))
  pub bad_code : ¬ IsCode code → result ≡ Err BadCode
  pub bad_name : IsCode code → ¬ IsName name → result ≡ Err BadName
  pub bad_key : IsCode code → IsName name → ¬ IsKey key → result ≡ Err BadKey

-- the word of an amount
pub record ReadsCents (cents : List ℕ) (debit : Bool) (result : Result ℤ Lexical) : Type 0 where
  pub found : (posting : ℤ) → ¬ IsSigned cents → SpellsPosting cents debit posting → result ≡ Ok posting
  pub signed : IsSigned cents → result ≡ Err BadAmount
  pub refused : ((posting : ℤ) → ¬ SpellsPosting cents debit posting) → result ≡ Err BadAmount

-- the words of a posting, judged from left to right
pub record ReadsPost (code reference cents : List ℕ) (debit : Bool) (result : Result Command Lexical) : Type 0 where
  pub found : (posting : ℤ) → IsCode code → IsReference reference → ¬ IsSigned cents → SpellsPosting cents debit posting
      → result ≡ Ok (command.Post code reference posting)
  pub bad_code : ¬ IsCode code → result ≡ Err BadCode
  pub bad_reference : IsCode code → ¬ IsReference reference → result ≡ Err BadReference
  pub signed : IsCode code → IsReference reference → IsSigned cents → result ≡ Err BadAmount
  pub bad_amount : IsCode code → IsReference reference → ((posting : ℤ) → ¬ SpellsPosting cents debit posting)
      → result ≡ Err BadAmount

-- the words of a credit limit, judged from left to right
pub record ReadsCredit (code cents : List ℕ) (result : Result Command Lexical) : Type 0 where
  pub found : (credit : ℕ) → IsCode code → IsCredit credit → cents ≡ decimal credit
      → result ≡ Ok (command.SetCredit code credit)
  pub bad_code : ¬ IsCode code → result ≡ Err BadCode
  pub bad_amount : IsCode code → ((credit : ℕ) → ¬ (IsCredit credit × (cents ≡ decimal credit)))
      → result ≡ Err BadAmount

-- the word of a participant
pub record ReadsCode (code : List ℕ) (result : Result (List ℕ) Lexical) : Type 0 where
  pub found : IsCode code → result ≡ Ok code
  pub bad_code : ¬ IsCode code → result ≡ Err BadCode

-- the words of an order's sender and reference, judged from left to right
pub record ReadsOrderName (code reference : List ℕ) (result : Result (List ℕ × List ℕ) Lexical) : Type 0 where
  pub found : IsCode code → IsReference reference → result ≡ Ok (code, reference)
  pub bad_code : ¬ IsCode code → result ≡ Err BadCode
  pub bad_reference : IsCode code → ¬ IsReference reference → result ≡ Err BadReference

-- the word of a key, which becomes its digest
pub record ReadsKey (key : List ℕ) (result : Result (List ℕ) Lexical) : Type 0 where
  pub found : IsKey key → result ≡ Ok (sha256 key)
  pub bad_key : ¬ IsKey key → result ≡ Err BadKey

-- the word is no date
abbrev pub IsNoDate : List ℕ → Type 0
IsNoDate date = (day : ℕ) → ¬ (IsBusinessDate day × (date ≡ date_text day))

-- the word of a day, weekends too
pub record ReadsDate (date : List ℕ) (result : Result ℕ Lexical) : Type 0 where
  pub found : (day : ℕ) → IsBusinessDate day → date ≡ date_text day → result ≡ Ok day
  pub bad_date : IsNoDate date → result ≡ Err BadDate

-- the words of a participant and of a day, judged from left to right
pub record ReadsStatement (code date : List ℕ) (result : Result (List ℕ × ℕ) Lexical) : Type 0 where
  pub found : (day : ℕ) → IsCode code → IsBusinessDate day → date ≡ date_text day → result ≡ Ok (code, day)
  pub bad_code : ¬ IsCode code → result ≡ Err BadCode
  pub bad_date : IsCode code → IsNoDate date → result ≡ Err BadDate

-- the command that opens this day, with this choice
abbrev pub opens_day : Bool → ℕ → Command
opens_day automatic day = command.OpenDay (record { date = day; automatic = automatic })

-- the word of a day, weekends too, for a command of that day
pub record ReadsDay (command_of : ℕ → Command) (date : List ℕ) (result : Result Command Lexical) : Type 0 where
  pub found : (day : ℕ) → IsBusinessDate day → date ≡ date_text day → result ≡ Ok (command_of day)
  pub bad_date : IsNoDate date → result ≡ Err BadDate
