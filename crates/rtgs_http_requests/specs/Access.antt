-- Who may ask for what.
use Rattle.std.specs.Prelude.{◌≡◌, ◌⊎◌, ℕ, List, Option, Some}
use Rattle.httparse.specs.Grammar.{RequestHead}
use Rattle.rtgs_book.specs.declared.command.Command.{Command}
use Rattle.rtgs_book.specs.declared.command.Command.TheVariants.{Add, SetCredit, Post, OpenDay, Order, Withdraw}
use Rattle.rtgs_book.specs.declared.command.Command.TheVariants.{Resolve, CutOff, CloseDay}
use Rattle.rtgs_http_requests.specs.feeds.Region.{StartsWith}
use Rattle.rtgs_http_requests.specs.heads.Fields.{HasKey}
use Rattle.rtgs_http_requests.specs.heads.Heads.{IsGoodHead, fields_of}
use Rattle.rtgs_http_requests.specs.Callers.{CodeOf}
use Rattle.rtgs_http_requests.specs.declared.asked.Asked.{Asked}
use Rattle.rtgs_http_requests.specs.declared.asked.Asked.TheVariants.{Submit, Batch, Read}
use Rattle.rtgs_book.specs.declared.reading.Reading.{Reading}
use Rattle.rtgs_book.specs.declared.reading.Reading.TheVariants as reading

-- The command is an order or a withdrawal of this sender.
abbrev pub IsCommandOf : List ℕ → Command → Type 0
IsCommandOf code (Order sender new_order) = sender ≡ code
IsCommandOf code (Withdraw sender reference) = sender ≡ code
IsCommandOf code (Add other name key) = ⊥
IsCommandOf code (SetCredit other credit) = ⊥
IsCommandOf code (Post other reference cents) = ⊥
IsCommandOf code (OpenDay new_day) = ⊥
IsCommandOf code Resolve = ⊥
IsCommandOf code (CutOff date) = ⊥
IsCommandOf code (CloseDay date) = ⊥

-- The reading is of this participant's own.
abbrev pub IsReadingOf : List ℕ → Reading → Type 0
IsReadingOf code (reading.Order sender reference) = sender ≡ code
IsReadingOf code (reading.Account other) = other ≡ code
IsReadingOf code (reading.Queue other) = other ≡ code
IsReadingOf code (reading.Held other) = other ≡ code
IsReadingOf code (reading.Waiting other) = other ≡ code
IsReadingOf code (reading.Statement other date) = other ≡ code
IsReadingOf code (reading.Report date) = ⊥
IsReadingOf code reading.Accounts = ⊥
IsReadingOf code reading.Queues = ⊥
IsReadingOf code reading.Status = ⊥
IsReadingOf code (reading.Orders date) = ⊥
IsReadingOf code (reading.Marks date) = ⊥

-- What is asked is this participant's own.
abbrev pub IsOwn : List ℕ → Asked → Type 0
IsOwn code (Submit command) = IsCommandOf code command
IsOwn code (Batch sender rows) = sender ≡ code
IsOwn code (Read read) = IsReadingOf code read

-- The digest is that of the only key field of the input's head.
pub record CarriesKey (input digest : List ℕ) : Type 0 where
  pub region : List ℕ
  pub rest : List ℕ
  pub head : RequestHead
  pub declared : Option ℕ
  pub starts : StartsWith input region rest
  pub good : IsGoodHead region head declared
  pub key : HasKey (fields_of head) (Some digest)

-- The digest is the operator's, or what is asked is the own of the participant who has it.
abbrev pub MayAsk : List ℕ → CodeOf → List ℕ → Asked → Type 0
MayAsk operator code_of digest asked =
    (digest ≡ operator) ⊎ ((code : List ℕ) × (code_of digest ≡ Some code) × IsOwn code asked)
