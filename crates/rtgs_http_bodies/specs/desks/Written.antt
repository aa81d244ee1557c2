-- What a writer holds after a text of a desk's book, and what its reading leaves of the desk. `g` has the members of
-- the keeper's trait.
use Rattle.std.specs.Prelude.{◌≡◌, ◌⊎◌, ℕ, ⊤, true, false, List, Option, Result, Ok, Err}
use Rattle.std.specs.Io.KnownBytes.{Appends}
use Rattle.rtgs_book.specs.declared.book.Book.{Book}
use Rattle.rtgs_book.specs.declared.refusal.Refusal.{Refusal}
use Rattle.rtgs_book.specs.declared.refusal.Refusal.TheVariants.{OutOfMemory, StoreFault}
use Rattle.rtgs_book.specs.Lookup.{participant_of}
use Rattle.rtgs_keeper.specs.declared.keeper.Keeper.{Ghosts}
use Rattle.rtgs_desk.specs.Holding.{Holds, IsLeft}
use Rattle.rtgs_desk.specs.Readings.{if_known}
use Rattle.rtgs_desk.specs.Seen.{Seen}
use Rattle.rtgs_output.specs.Sent.{AppendsPart}
use Rattle.rtgs_statements.specs.Listings.{orders_text, marks_text}
use Rattle.rtgs_statements.specs.Texts.{statement, report}
use Rattle.rtgs_statements.specs.declared.book_text_fault.BookTextFault.{BookTextFault}
use Rattle.rtgs_statements.specs.declared.book_text_fault.BookTextFault.TheVariants.{Refused, Text}

-- the participant's statement, and where nobody has the code, that it is unknown
abbrev pub statement_wanted : Book → List ℕ → ℕ → Result (List ℕ) Refusal
statement_wanted book code date = if_known (participant_of book code) (λ participant. Ok (statement book code date))

abbrev pub report_wanted : Book → ℕ → Result (List ℕ) Refusal
report_wanted book date = Ok (report book date)

abbrev pub orders_wanted : Book → ℕ → Result (List ℕ) Refusal
orders_wanted book date = Ok (orders_text book date)

abbrev pub marks_wanted : Book → ℕ → Result (List ℕ) Refusal
marks_wanted book date = Ok (marks_text book date)

-- What is wanted is written whole, or refused with nothing written. In place of a text can come lack of memory, a fault
-- of the store or one of the writer, after a beginning of the text; in place of a refusal nothing can.
abbrev pub Writes : Option (List ℕ) → Result (List ℕ) Refusal → Result ⊤ BookTextFault → Option (List ℕ) → Type 0
Writes old (Err refusal) result new = (result ≡ Err (Refused refusal)) × (new ≡ old)
Writes old (Ok text) (Ok done) new = Appends old new text
Writes old (Ok text) (Err (Refused refusal)) new =
    ((refusal ≡ OutOfMemory) ⊎ (refusal ≡ StoreFault)) × AppendsPart old new text
Writes old (Ok text) (Err (Text fault)) new = AppendsPart old new text

-- the store was asked, and failed
abbrev pub IsLost : {K V : Type 0} → Ghosts K → Seen K → Result V Refusal → Type 0
IsLost g desk result = (g.has_failed desk.keeper ≡ true) × (result ≡ Err StoreFault)

-- Reading does nothing to the book: the desk holds it unless the store failed, and a crash leaves it and no other,
-- whole.
pub record LeavesBook {K : Type 0} (g : Ghosts K) (old new : Seen K) : Type 0 where
  pub honest : g.is_honest new.keeper → g.is_honest old.keeper
  pub kept : g.is_honest new.keeper → (book : Book) → Holds g old book → g.has_failed new.keeper ≡ false
      → Holds g new book
  pub left : g.is_honest new.keeper → (book : Book) → Holds g old book → IsLeft g new book

-- why a text is not made in memory, where its writer wants memory and nothing else
abbrev pub refusal_of_text : BookTextFault → Refusal
refusal_of_text (Refused refusal) = refusal
refusal_of_text (Text fault) = OutOfMemory

-- nothing was done to the book: the desk holds it, unless the store failed, and a crash leaves it and no other, whole
pub record StillHolds {K : Type 0} (g : Ghosts K) (book : Book) (desk : Seen K) : Type 0 where
  pub kept : g.has_failed desk.keeper ≡ false → Holds g desk book
  pub after_a_crash : (found : Book) → g.leaves desk.keeper found → found ≡ book
  pub whole_after_a_crash : g.is_whole desk.keeper
