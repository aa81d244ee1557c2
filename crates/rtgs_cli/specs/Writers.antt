-- The two writers of a run, standard output and standard error, before it and after it.
use Rattle.std.specs.Prelude.{◌≡◌, ⊤, ℕ, List, Option, Result}
use Rattle.rtgs_cli_lines.specs.SentTo.{IsSentTo}
use Rattle.rtgs_output.specs.declared.writer_failed.WriterFailed.{WriterFailed}

-- a writer before a run and after it, and what it holds, where that is known
pub record Writer (W : Type 0) : Type 0 where
  pub contents : W → Option (List ℕ)
  pub before : W
  pub after : W

-- standard output and standard error
pub record Writers (O E : Type 0) : Type 0 where
  pub out : Writer O
  pub err : Writer E

-- the writer took nothing
abbrev pub HasTakenNothing : {W : Type 0} → Writer W → Type 0
HasTakenNothing writer = writer.after ≡ writer.before

-- the writer took this text, or a beginning of it where it failed
abbrev pub HasTaken : {W : Type 0} → Result ⊤ WriterFailed → Writer W → List ℕ → Type 0
HasTaken sent writer text =
    IsSentTo sent (writer.contents writer.before) (writer.contents writer.after) text
