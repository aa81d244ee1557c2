-- The replies that tell a kind of refusal, by the table of refusals.
use Rattle.std.specs.Prelude.{ℕ, unwrap_or}
use Rattle.serde_json.specs.Data.{Data}
use Rattle.rtgs_refusals.specs.Table.{entry_of}
use Rattle.rtgs_refusals.specs.declared.refusal_kind.RefusalKind.{RefusalKind}
use Rattle.rtgs_refusals.specs.declared.refusal_kind.RefusalKind.TheVariants as kind
use Rattle.rtgs_http_bodies.specs.replies.Bodies.{refusal_data}
use Rattle.rtgs_http_bodies.specs.replies.Messages.{Message, json_message}

-- the status of the table, or 503 for a kind that no request meets
abbrev pub kind_status : RefusalKind → ℕ
kind_status kind = unwrap_or (entry_of kind).http_status 503

-- a kind of refusal by its number and its name
abbrev pub kind_data : RefusalKind → Data
kind_data kind = refusal_data (entry_of kind).number (entry_of kind).name

abbrev pub kind_message : RefusalKind → Message
kind_message kind = json_message (kind_status kind) (kind_data kind)

-- memory was refused before the desk had answered
abbrev pub no_memory : Message
no_memory = kind_message kind.OutOfMemory

-- memory was refused for the reply, after the desk had answered
abbrev pub answer_lost : Message
answer_lost = kind_message kind.AnswerLost
