-- What contracts see of a reply.
use Rattle.std.specs.Prelude.{ℕ, List}
use Rattle.serde_json.specs.Data.{Data}
use Rattle.serde_json.specs.Written.{compact_text}
use Rattle.rtgs_http_bodies.specs.replies.Texts.{reply_text}
use Rattle.rtgs_http_bodies.specs.declared.replies.content_type.ContentType.{ContentType}
use Rattle.rtgs_http_bodies.specs.declared.replies.content_type.ContentType.TheVariants.{Json}

-- a reply is its status and all its bytes
pub record Message : Type 0 where
  pub status : ℕ
  pub text : List ℕ

abbrev pub message : ℕ → ContentType → List ℕ → Message
message status content body = record { status = status; text = reply_text status content body }

-- the body spells this value, with no space and no line feed, and the keys in byte order
abbrev pub json_message : ℕ → Data → Message
json_message status value = message status Json (compact_text value)
