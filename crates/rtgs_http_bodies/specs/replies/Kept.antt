-- The bytes that a reply keeps.
use Rattle.std.specs.Prelude.{ℕ, List}
use Rattle.rtgs_http_bodies.specs.declared.replies.reply_bytes.ReplyBytes.{ReplyBytes}
use Rattle.rtgs_http_bodies.specs.declared.replies.reply_bytes.ReplyBytes.TheVariants.{Made, Fixed}

abbrev pub kept_bytes : ReplyBytes → List ℕ
kept_bytes (Made bytes) = bytes.items
kept_bytes (Fixed text) = text.now
