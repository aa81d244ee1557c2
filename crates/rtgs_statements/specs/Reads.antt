-- What reads leave of what they read from, and of a text a beginning or whole lines.
use Rattle.std.specs.Prelude.{◌≡◌, ◌≢◌, ◌⊎◌, ◌++◌, ℕ, ⊤, Bool, true, false, List, [], ◌∷◌, Option, None, Some, Result}
use Rattle.std.specs.Prelude.{Ok, Err, IfSome}
use Rattle.std.specs.Io.KnownBytes.{Appends}
use Rattle.rtgs_book.specs.declared.book.Book.{Book}
use Rattle.rtgs_book.specs.declared.refusal.Refusal.{Refusal}
use Rattle.rtgs_book.specs.declared.refusal.Refusal.TheVariants.{OutOfMemory, StoreFault, Failed}
use Rattle.rtgs_output.specs.declared.text_fault.TextFault.TheVariants.{OutOfMemory as NoMemory, Write}
use Rattle.rtgs_statements.specs.declared.book_text_fault.BookTextFault.{BookTextFault}
use Rattle.rtgs_statements.specs.declared.book_text_fault.BookTextFault.TheVariants.{Refused, Text}

-- the refusal by which a read ended, if it did
abbrev pub refused_by : {X : Type 0} → Result X Refusal → Option Refusal
refused_by (Ok x) = None
refused_by (Err refusal) = Some refusal

-- the refusal of a read by which a text ended, if it did
abbrev pub read_refused_by : {X : Type 0} → Result X BookTextFault → Option Refusal
read_refused_by (Ok x) = None
read_refused_by (Err (Refused refusal)) = Some refusal
read_refused_by (Err (Text fault)) = None

-- What reads that ended so leave of what they read from. Reading changes nothing in the book.
pub record LeavesRead {S : Type 0} (holds leaves : S → Book → Type 0) (is_honest : S → Type 0) (has_failed : S → Bool)
    (old new : S) (ended : Option Refusal) : Type 0 where
  pub honest : is_honest new → is_honest old
  -- unless the store failed, the book is read from as before
  pub held : is_honest new → (book : Book) → holds old book → ended ≢ Some StoreFault → holds new book
  pub left : is_honest new → (book : Book) → holds old book → leaves new book
  pub fault : ended ≡ Some StoreFault → (has_failed old ≡ false) × (has_failed new ≡ true)
  pub only_fault : ended ≢ Some StoreFault → has_failed new ≡ has_failed old
  -- what had failed is left as it was, and nothing else is said to have failed
  pub failed : has_failed old ≡ true → new ≡ old
  pub only_failed : ended ≡ Some Failed → has_failed old ≡ true
  -- lack of memory, or a fault of the store
  pub kinds : has_failed old ≡ false → IfSome ended (λ refusal. (refusal ≡ OutOfMemory) ⊎ (refusal ≡ StoreFault))
  -- lack of memory, or that it had failed
  pub failed_kinds : has_failed old ≡ true → IfSome ended (λ refusal. (refusal ≡ OutOfMemory) ⊎ (refusal ≡ Failed))

-- known bytes grow by a beginning of the text, or by all of it
abbrev pub AppendsBeginning : Option (List ℕ) → Option (List ℕ) → List ℕ → Type 0
AppendsBeginning old new text =
    (written : List ℕ) × (rest : List ℕ) × Appends old new written × (written ++ rest ≡ text)

-- no byte, or bytes of which the last is a line feed
abbrev pub IsWholeLines : List ℕ → Type 0
IsWholeLines bytes = (bytes ≡ []) ⊎ ((before : List ℕ) × (bytes ≡ before ++ 10 ∷ []))

-- known bytes grow by whole lines, or by none
abbrev pub AppendsWholeLines : Option (List ℕ) → Option (List ℕ) → Type 0
AppendsWholeLines old new = (written : List ℕ) × Appends old new written × IsWholeLines written

-- Known bytes grow by whole lines, or by none, unless the writer failed: a read that is refused, and a line that finds
-- no memory, leave no part of a line.
abbrev pub LeavesWholeLines : BookTextFault → Option (List ℕ) → Option (List ℕ) → Type 0
LeavesWholeLines (Refused refusal) old new = AppendsWholeLines old new
LeavesWholeLines (Text NoMemory) old new = AppendsWholeLines old new
LeavesWholeLines (Text (Write failed)) old new = ⊤

-- The same of a text that was written whole, which is whole lines.
abbrev pub LeavesLines : Result ⊤ BookTextFault → Option (List ℕ) → Option (List ℕ) → Type 0
LeavesLines (Ok done) old new = AppendsWholeLines old new
LeavesLines (Err fault) old new = LeavesWholeLines fault old new
