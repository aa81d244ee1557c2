-- What is said of the desk that was opened, lent to a reading and then left, is said of that of the finished book, and
-- of what the run did once it was closed.
use Rattle.std.proofs.Common.{◌≡◌, ◌⊎◌, ℕ, List, Option, Result, Ok, Err, refl, sym, subst}
use Rattle.std.specs.Bool.{⊤}
use Rattle.std.specs.Result.{IfOk, IfErr}
use Rattle.std.proofs.lemmas.Result.{IfOk-at_ok}
use Rattle.rtgs_book.specs.Choice.{Choice, IsGreatest}
use Rattle.rtgs_book.specs.declared.book.Book.{Book}
use Rattle.rtgs_book.specs.declared.reading.Reading.{Reading}
use Rattle.rtgs_book.specs.declared.refusal.Refusal.{Refusal}
use Rattle.rtgs_desk.specs.Holding.{Holds}
use Rattle.rtgs_desk.specs.Readings.{Tells}
use Rattle.rtgs_desk.specs.Seen.{Seen}
use Rattle.rtgs_http_bodies.specs.desks.Readings.{ReadingFails, text_wanted}
use Rattle.rtgs_http_bodies.specs.desks.Written.{Writes, statement_wanted, StillHolds}
use Rattle.rtgs_statements.specs.declared.book_text_fault.BookTextFault.{BookTextFault}
use Rattle.rtgs_book_file.specs.OverFile.{OverFile}
use Rattle.rtgs_cli.specs.files.Done.{IsDone}
use Rattle.rtgs_cli.specs.readings.Readings.{IsRead, IsWritten}

-- what is so of each outcome that is no refusal, and of each refusal
pub if_done : {T E : Type 0} (result : Result T E) (P : T → Type 0) → ((done : T) → result ≡ Ok done → P done)
    → IfOk result P
if_done (Ok done) P so = so done refl
if_done (Err why) P so = tt

pub if_refused : {T E : Type 0} (result : Result T E) (P : E → Type 0) → ((why : E) → result ≡ Err why → P why)
    → IfErr result P
if_refused (Ok done) P so = tt
if_refused (Err why) P so = so why refl

-- the book of which something was read
pub read_with : {K B U C E V : Type 0} (file : OverFile K U C) (desk_of : B → Seen K) (text_of : V → List ℕ)
    (reading : Reading) (finished : Result (B × Result V Refusal) E)
    → IfOk finished (λ p. IsRead file text_of reading p.1 (desk_of p.0)) → (book : B) (done : Result V Refusal)
    → finished ≡ Ok (book, done) → IsRead file text_of reading done (desk_of book)
read_with file desk_of text_of reading finished all book done is =
    IfOk-at_ok (λ p. IsRead file text_of reading p.1 (desk_of p.0)) is all

module _ {K U C : Type 0} (file : OverFile K U C) {opened lent left finished : Seen K} (lends : lent ≡ opened)
    (same : finished ≡ left) (over : file.keeper.is_honest opened.keeper → file.facts.was_opened opened)
    (honest : file.keeper.is_honest left.keeper → file.keeper.is_honest lent.keeper) where
  -- a promise of each book that the desk held when it was lent
  abbrev Promises : (Book → Type 0) → Type 0
  Promises Does = file.keeper.is_honest left.keeper → (book : Book) → Holds file.keeper lent book → Does book

  is_done : (Does : Book → Type 0) → Promises Does → IsDone file left Does
  is_done Does did = record {
    opened = lent;
    over = λ was_honest.
        subst (λ desk. file.keeper.is_honest desk.keeper → file.facts.was_opened desk) (sym lends) over
        (honest was_honest);
    did = did;
  }

  pub was_read : {V : Type 0} (text_of : V → List ℕ) (reading : Reading) (read : Result V Refusal)
      → Promises (λ book. StillHolds file.keeper book left)
      → Promises (λ book. (choice : Choice) → IsGreatest book choice
      → Tells text_of (text_wanted book choice reading) read ⊎ ReadingFails file.keeper book reading left read)
      → IsRead file text_of reading read finished
  was_read text_of reading read stands answered = subst (IsRead file text_of reading read) (sym same)
      (is_done _ (λ was_honest book held. (stands was_honest book held, answered was_honest book held)))

  pub was_written : (code : List ℕ) (date : ℕ) (written : Result ⊤ BookTextFault) (before after : Option (List ℕ))
      → Promises (λ book. StillHolds file.keeper book left)
      → Promises (λ book. Writes before (statement_wanted book code date) written after)
      → IsWritten file code date written before after finished
  was_written code date written before after stands writes =
      subst (IsWritten file code date written before after) (sym same)
      (is_done _ (λ was_honest book held. (stands was_honest book held, writes was_honest book held)))
