-- One request and its reply. `g` has the members of the keeper's trait.
use Rattle.std.specs.Prelude.{◌≡◌, ◌⊎◌, ⊤, ℕ, List, true, Result, Ok, Err}
use Rattle.rtgs_book.specs.declared.book.Book.{Book}
use Rattle.rtgs_book.specs.declared.refusal.Refusal.TheVariants.{Failed}
use Rattle.rtgs_keeper.specs.declared.keeper.Keeper.{Ghosts}
use Rattle.rtgs_ledger.specs.Keys.{code_under}
use Rattle.rtgs_desk.specs.Holding.{HasParticipants, Holds}
use Rattle.rtgs_desk.specs.Seen.{Seen}
use Rattle.rtgs_http_bodies.specs.Refusals.{refused_message}
use Rattle.rtgs_http_bodies.specs.replies.Messages.{Message}
use Rattle.rtgs_http_requests.specs.Access.{CarriesKey, MayAsk}
use Rattle.rtgs_http_requests.specs.Callers.{CodeOf}
use Rattle.rtgs_http_requests.specs.Exchange.{AsksFor}
use Rattle.rtgs_http_requests.specs.Plans.{PlanLooksUp}
use Rattle.rtgs_http_requests.specs.declared.asked.Asked.{Asked}
use Rattle.rtgs_http_requests.specs.declared.http_fault.HttpFault.{HttpFault}
use Rattle.rtgs_http_server.specs.exchange.Handling.{ComesTo, WorksFor}
use Rattle.rtgs_http_server.specs.exchange.ReplyMessages.{IsSaid, fault_message}

-- what is asked concerns the key's participant alone, unless the key is the operator's
abbrev pub IsAllowed : List ℕ → Book → List ℕ → Result Asked HttpFault → Type 0
IsAllowed operator old input (Ok asked) =
    (digest : List ℕ) × CarriesKey input digest × MayAsk operator (code_under old) digest asked
IsAllowed operator old input (Err fault) = ⊤

-- the request is read to its end, and what it asks of the book that the desk held is done and answered
pub record Handles {K : Type 0} (g : Ghosts K) (operator : List ℕ) (old : Book) (input : List ℕ) (desk : Seen K)
    (sent : Message) : Type 0 where
  pub answer : Result Asked HttpFault
  pub asks : AsksFor operator (code_under old) input answer
  pub allowed : IsAllowed operator old input answer
  pub comes : ComesTo g old answer desk sent
  -- the commands that it asks for are a session from the book that the desk held
  pub works : WorksFor g old answer desk

-- No step so far needed the book, and none failed: the next one looks up whose key it is, or what is asked is known
-- already, whoever the participants are.
abbrev pub NeedsBook : List ℕ → List ℕ → Type 0
NeedsBook operator input =
    PlanLooksUp operator input ⊎ ((asked : Asked) × ((code_of : CodeOf) → AsksFor operator code_of input (Ok asked)))

-- A desk that had failed says so at the first step that needs the book. A fault of a step before it is sent.
abbrev pub TurnsAway : List ℕ → List ℕ → Message → Type 0
TurnsAway operator input sent =
    (NeedsBook operator input × IsSaid (refused_message Failed) sent)
    ⊎ ((fault : HttpFault) × ((code_of : CodeOf) → AsksFor operator code_of input (Err fault))
    × IsSaid (fault_message fault) sent)

-- the bearer of a key asks for what it may, by the participants that the desk has in memory, which are those of a book
abbrev pub IsAskedByBearer : {K : Type 0} → List ℕ → Seen K → List ℕ → Type 0
IsAskedByBearer operator desk input =
    (book : Book) × HasParticipants desk book × (asked : Asked) × AsksFor operator (code_under book) input (Ok asked)
    × IsAllowed operator book input (Ok asked)

-- what an input gives: on a desk that held a book, and on one that had failed
pub record Exchanges {K : Type 0} (g : Ghosts K) (operator : List ℕ) (old : Seen K) (input : List ℕ) (new : Seen K)
    (sent : Message) : Type 0 where
  pub handles : g.is_honest new.keeper → (book : Book) → Holds g old book → Handles g operator book input new sent
  -- whatever the desk holds, it changes only where something is asked that the bearer of the key may ask
  pub changes : (new ≡ old) ⊎ IsAskedByBearer operator old input
  pub failed : g.has_failed old.keeper ≡ true → (new ≡ old) × TurnsAway operator input sent
