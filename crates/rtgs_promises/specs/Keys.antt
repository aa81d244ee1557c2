-- Who acts by a request, and what a request gives. `g` has the members of the keeper's trait.
use Rattle.std.specs.Prelude.{◌≡◌, ◌⊎◌, ℕ, List, [], ◌∷◌, length, Option, Some}
use Rattle.std.specs.List.{AllByRecursion}
use Rattle.rtgs_book.specs.declared.book.Book.{Book}
use Rattle.rtgs_book.specs.declared.command.Command.{Command}
use Rattle.rtgs_book.specs.Outcome.{Reply}
use Rattle.rtgs_keeper.specs.declared.keeper.Keeper.{Ghosts}
use Rattle.rtgs_ledger.specs.Keys.{code_under}
use Rattle.rtgs_desk.specs.Seen.{Seen}
use Rattle.rtgs_http_bodies.specs.replies.Messages.{Message}
use Rattle.rtgs_http_requests.specs.Access.{CarriesKey, IsCommandOf}
use Rattle.rtgs_http_server.specs.exchange.Handling.{given}
use Rattle.rtgs_http_server.specs.exchange.Exchange.{Handles}
use Rattle.rtgs_http_server.specs.exchange.Serving.{Serves}
use Rattle.rtgs_http_server.specs.declared.exchange.served.Served.{Served}
use Rattle.rtgs_http_server.specs.declared.exchange.served.Served.TheVariants.{ReadFault}
use Rattle.rtgs_http_server.specs.declared.input.reader_failed.ReaderFailed.{ReaderFailed}
use Rattle.rtgs_promises.specs.Headline.{IsHeadline}

-- The commands are none; or the input carries the operator's key; or it carries the key of a participant, and each of
-- them is an order or a withdrawal of this participant's own.
abbrev pub AreAllowed : List ℕ → Book → List ℕ → List Command → Type 0
AreAllowed operator book input commands = (commands ≡ []) ⊎ ((digest : List ℕ) × CarriesKey input digest
    × ((digest ≡ operator)
    ⊎ ((code : List ℕ) × (code_under book digest ≡ Some code) × AllByRecursion (IsCommandOf code) commands)))

-- The message is the reply to the input that the definitions give, the commands are those that the input asks for, and
-- the stop after them left what the headline says.
pub record IsAnswered {K : Type 0} (g : Ghosts K) (operator : List ℕ) (start : Book) (input : List ℕ) (sent : Message)
    (found : Book) : Type 0 where
  -- the desk before the stop
  pub desk : Seen K
  pub handles : Handles g operator start input desk sent
  pub replies : List Reply
  pub allowed : AreAllowed operator start input (given handles.answer (length replies))
  pub headline : IsHeadline start (given handles.answer (length replies) ∷ []) (replies ∷ []) found

-- What is written is the answer to the request, whole or a beginning of it. Where the reader failed, nothing was done.
-- `known` are the bytes that the reader has, if they are known, and `old` and `new` those that were written before and
-- after.
abbrev pub IsServed : {K : Type 0} → Ghosts K → List ℕ → Book → Option (List ℕ) → Option (List ℕ) → Option (List ℕ)
    → Served → Book → Type 0
IsServed g operator start known old new served found =
    Serves (λ input sent. IsAnswered g operator start input sent found) known old new served
    × ((failed : ReaderFailed) → served ≡ ReadFault failed → found ≡ start)
