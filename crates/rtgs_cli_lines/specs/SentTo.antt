-- What a writer holds to which a text was sent.
use Rattle.std.specs.Prelude.{ℕ, ⊤, List, Option, Result, Ok, Err}
use Rattle.std.specs.Io.KnownBytes.{Appends}
use Rattle.rtgs_output.specs.declared.writer_failed.WriterFailed.{WriterFailed}
use Rattle.rtgs_output.specs.Sent.{AppendsPart}

-- the whole text more, and where the writer failed, a beginning of it and not all
abbrev pub IsSentTo : Result ⊤ WriterFailed → Option (List ℕ) → Option (List ℕ) → List ℕ → Type 0
IsSentTo (Ok _) old new text = Appends old new text
IsSentTo (Err failed) old new text = AppendsPart old new text
