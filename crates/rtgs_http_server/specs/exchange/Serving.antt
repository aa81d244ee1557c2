-- What is written for what is read.
use Rattle.std.specs.Prelude.{◌≡◌, ℕ, List, Option}
use Rattle.std.specs.Io.KnownBytes.{Appends, Keeps}
use Rattle.rtgs_http_server.specs.declared.exchange.served.Served.{Served}
use Rattle.rtgs_http_server.specs.declared.exchange.served.Served.TheVariants.{Answered, ReadFault, WriteFault}
use Rattle.rtgs_http_server.specs.input.Input.{OfInput}
use Rattle.rtgs_http_bodies.specs.replies.Messages.{Message}
use Rattle.rtgs_output.specs.Sent.{AppendsPart}

-- What is sent is a reply to the input, or, where its bytes are not known, to some input. `IsReply` says which messages
-- are.
pub record Sends (IsReply : List ℕ → Message → Type 0) (known : Option (List ℕ)) (status : ℕ)
    (Written : List ℕ → Type 0) : Type 0 where
  pub sent : Message
  pub reply : OfInput known (λ input. IsReply input sent)
  pub has_status : sent.status ≡ status
  pub written : Written sent.text

-- the reply was written whole, or a beginning of it and not all, or nothing
abbrev pub Serves : (List ℕ → Message → Type 0) → Option (List ℕ) → Option (List ℕ) → Option (List ℕ) → Served → Type 0
Serves IsReply known old new (Answered status) = Sends IsReply known status (Appends old new)
Serves IsReply known old new (WriteFault status failed) = Sends IsReply known status (AppendsPart old new)
Serves IsReply known old new (ReadFault failed) = Keeps old new
