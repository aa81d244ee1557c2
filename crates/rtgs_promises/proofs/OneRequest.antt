-- One request, and a crash after it.
use Rattle.std.proofs.Common.{◌≡◌, ℕ, zero, suc, List, [], ◌∷◌, take, Option, Some, None, Result, Ok, Err}
use Rattle.std.proofs.Common.{refl, inl, inr, ⊎_elim}
use Rattle.std.specs.List.{AllByRecursion}
use Rattle.rtgs_book.specs.declared.book.Book.{Book}
use Rattle.rtgs_book.specs.declared.command.Command.{Command}
use Rattle.rtgs_book.specs.Outcome.{Reply}
use Rattle.rtgs_book.specs.Session.{IsSession}
use Rattle.rtgs_desk.specs.batches.Batches.{orders_of}
use Rattle.rtgs_book.specs.declared.new_order.NewOrder.{NewOrder}
use Rattle.rtgs_http_server.specs.declared.exchange.served.Served.{Served}
use Rattle.rtgs_http_server.specs.declared.exchange.served.Served.TheVariants.{Answered, ReadFault, WriteFault}
use Rattle.rtgs_http_server.specs.exchange.Handling.{given}
use Rattle.rtgs_http_server.specs.exchange.Exchange.{IsAllowed}
use Rattle.rtgs_http_server.specs.exchange.Serving.{Sends, Serves}
use Rattle.rtgs_http_server.specs.input.Input.{OfInput}
use Rattle.rtgs_http_bodies.specs.replies.Messages.{Message}
use Rattle.rtgs_http_requests.specs.Access.{IsCommandOf}
use Rattle.rtgs_http_requests.specs.declared.asked.Asked.{Asked}
use Rattle.rtgs_http_requests.specs.declared.asked.Asked.TheVariants.{Submit, Batch, Read}
use Rattle.rtgs_http_requests.specs.declared.http_fault.HttpFault.{HttpFault}
use Rattle.rtgs_promises.proofs.Headlines.{AreLife}
use Rattle.rtgs_promises.specs.Keys.{AreAllowed}

-- ---- who acts

take_all_of : {X : Type 0} (P : X → Type 0) (n : ℕ) (xs : List X) → AllByRecursion P xs → AllByRecursion P (take n xs)
take_all_of P zero xs h = tt
take_all_of P (suc n) [] h = tt
take_all_of P (suc n) (x ∷ xs) h = (h.0, take_all_of P n xs h.1)

orders_are_own : (code sender : List ℕ) (rows : List NewOrder) → sender ≡ code
    → AllByRecursion (IsCommandOf code) (orders_of sender rows)
orders_are_own code sender [] same = tt
orders_are_own code sender (row ∷ rows) same = (same, orders_are_own code sender rows same)

pub given_are_allowed : (operator : List ℕ) (book : Book) (input : List ℕ) (answer : Result Asked HttpFault) (n : ℕ)
    → IsAllowed operator book input answer → AreAllowed operator book input (given answer n)
given_are_allowed operator book input (Err fault) n allowed = inl refl
given_are_allowed operator book input (Ok (Read reading)) n allowed = inl refl
given_are_allowed operator book input (Ok (Submit command)) n allowed = inr (
  allowed.0,
  allowed.1,
  ⊎_elim (λ is. inl is)
      (λ own. inr (own.0, own.1, take_all_of (IsCommandOf own.0) n (command ∷ []) (own.2, tt))) allowed.2,
)
given_are_allowed operator book input (Ok (Batch sender rows)) n allowed = inr (
  allowed.0,
  allowed.1,
  ⊎_elim (λ is. inl is)
      (λ own. inr (own.0, own.1, orders_are_own own.0 sender (take n rows.items) own.2)) allowed.2,
)

-- ---- one session

pub one_life : (start found : Book) (commands : List Command) (replies : List Reply)
    → IsSession (record { start = start; commands = commands; replies = replies; found = found })
    → AreLife start (commands ∷ []) (replies ∷ []) found
one_life start found commands replies is = record {
  sessions = record { start = start; commands = commands; replies = replies; found = found } ∷ [];
  commands = refl;
  replies = refl;
  life = (refl, is, refl);
}

-- ---- what is written

of_input : (known : Option (List ℕ)) (P Q : List ℕ → Type 0) → ((input : List ℕ) → P input → Q input)
    → OfInput known P → OfInput known Q
of_input (Some left) P Q f p = f left p
of_input None P Q f p = (p.0, f p.0 p.1)

sends_more : (P Q : List ℕ → Message → Type 0) → ((input : List ℕ) (sent : Message) → P input sent → Q input sent)
    → (known : Option (List ℕ)) (status : ℕ) (Written : List ℕ → Type 0) → Sends P known status Written
    → Sends Q known status Written
sends_more P Q f known status Written s = record {
  sent = s.sent;
  reply = of_input known (λ input. P input s.sent) (λ input. Q input s.sent) (λ input. f input s.sent) s.reply;
  has_status = s.has_status;
  written = s.written;
}

pub serves_more : (P Q : List ℕ → Message → Type 0)
    → ((input : List ℕ) (sent : Message) → P input sent → Q input sent)
    → (known old new : Option (List ℕ)) (served : Served) → Serves P known old new served
    → Serves Q known old new served
serves_more P Q f known old new (Answered status) s = sends_more P Q f known status _ s
serves_more P Q f known old new (WriteFault status failed) s = sends_more P Q f known status _ s
serves_more P Q f known old new (ReadFault failed) s = s
