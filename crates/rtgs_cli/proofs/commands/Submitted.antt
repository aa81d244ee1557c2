-- What is said of the desk that was opened, lent to a command and then left, is said of that of the finished book, and
-- of what the run did once it was closed.
use Rattle.std.proofs.Common.{◌≡◌, [], ◌∷◌, Result, Ok, sym, subst}
use Rattle.std.specs.Result.{IfOk}
use Rattle.std.proofs.lemmas.Result.{IfOk-at_ok}
use Rattle.rtgs_book.specs.Outcome.{Reply}
use Rattle.rtgs_book.specs.declared.book.Book.{Book}
use Rattle.rtgs_book.specs.declared.command.Command.{Command}
use Rattle.rtgs_desk.specs.Holding.{Holds, Acts}
use Rattle.rtgs_desk.specs.Seen.{Seen}
use Rattle.rtgs_book_file.specs.OverFile.{OverFile}
use Rattle.rtgs_cli.specs.commands.Commands.{IsSubmitted}

module _ {K U C : Type 0} (file : OverFile K U C) {opened lent left finished : Seen K} (lends : lent ≡ opened)
    (same : finished ≡ left) (over : file.keeper.is_honest opened.keeper → file.facts.was_opened opened)
    (honest : file.keeper.is_honest left.keeper → file.keeper.is_honest lent.keeper) where
  -- a promise of each book that the desk held when it was lent
  abbrev Promises : (Book → Type 0) → Type 0
  Promises Does = file.keeper.is_honest left.keeper → (book : Book) → Holds file.keeper lent book → Does book

  pub submitted : (command : Command) (reply : Reply) → Promises (λ book. Acts file.keeper book command reply left)
      → Promises (λ book. file.facts.stop_leaves left book (command ∷ []) (reply ∷ []))
      → IsSubmitted file command reply finished
  submitted command reply acts leaves = subst (IsSubmitted file command reply) (sym same) (record {
    opened = lent;
    over = λ was_honest.
        subst (λ desk. file.keeper.is_honest desk.keeper → file.facts.was_opened desk) (sym lends) over
        (honest was_honest);
    did = λ was_honest book held. (acts was_honest book held, leaves was_honest book held);
  })

-- the book with which a command was submitted
pub submitted_with : {K B U C E : Type 0} (file : OverFile K U C) (desk_of : B → Seen K) (command : Command)
    (finished : Result (B × Reply) E) → IfOk finished (λ p. IsSubmitted file command p.1 (desk_of p.0)) → (book : B)
    (done reply : Reply) → finished ≡ Ok (book, done) → done ≡ reply → IsSubmitted file command reply (desk_of book)
submitted_with file desk_of command finished all book done reply is same = subst
    (λ reply. IsSubmitted file command reply (desk_of book)) same
    (IfOk-at_ok (λ p. IsSubmitted file command p.1 (desk_of p.0)) is all)
