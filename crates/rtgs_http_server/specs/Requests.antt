-- What requests one after another made of a book. `g` has the members of the keeper's trait.
use Rattle.std.specs.Prelude.{ℕ, List, [], ◌++◌, length, Result}
use Rattle.rtgs_book.specs.declared.book.Book.{Book}
use Rattle.rtgs_book.specs.declared.command.Command.{Command}
use Rattle.rtgs_book.specs.Outcome.{Reply}
use Rattle.rtgs_book.specs.Run.{Run}
use Rattle.rtgs_book.specs.Session.{answered, answers}
use Rattle.rtgs_keeper.specs.declared.keeper.Keeper.{Ghosts}
use Rattle.rtgs_ledger.specs.Keys.{code_under}
use Rattle.rtgs_desk.specs.Seen.{Seen}
use Rattle.rtgs_http_requests.specs.Exchange.{AsksFor}
use Rattle.rtgs_http_requests.specs.declared.asked.Asked.{Asked}
use Rattle.rtgs_http_requests.specs.declared.http_fault.HttpFault.{HttpFault}
use Rattle.rtgs_http_server.specs.exchange.Handling.{Makes, given}
use Rattle.rtgs_http_server.specs.exchange.Exchange.{IsAllowed}

-- an input asks for this, as it may, under the operator's digest and the digests that the book's participants have
pub record IsAsked (operator : List ℕ) (book : Book) (input : List ℕ) (answer : Result Asked HttpFault)
    : Type 0 where
  pub asks : AsksFor operator (code_under book) input answer
  pub allowed : IsAllowed operator book input answer

-- The commands, with these replies, are those that inputs one after another asked for, and no others. Each input was
-- asked of the book to which the commands before it led.
pub data AreAsked (operator : List ℕ) (old : Book) : List Command → List Reply → Type 0 where
  nothing : AreAsked operator old [] []
  and_then : {commands : List Command} {replies : List Reply} → AreAsked operator old commands replies
      → (book : Book) → Run old (answered commands replies) (answers replies) book
      → (input : List ℕ) (answer : Result Asked HttpFault) (again : List Reply) → IsAsked operator book input answer
      → AreAsked operator old (commands ++ given answer (length again)) (replies ++ again)

-- the commands that requests asked for, one request after another, and no others
abbrev pub WorksForAll : {K : Type 0} → Ghosts K → List ℕ → Book → Seen K → Type 0
WorksForAll g operator old desk = (commands : List Command) × (replies : List Reply)
    × AreAsked operator old commands replies × Makes g old commands replies desk
