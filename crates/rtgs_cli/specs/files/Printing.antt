-- What a run prints.
use Rattle.std.specs.Prelude.{ℕ, List, [], ◌∷◌, ◌++◌, Option}
use Rattle.rtgs_book.specs.declared.refusal.Refusal.{Refusal}
use Rattle.rtgs_cli_lines.specs.Texts.{Prints}
use Rattle.rtgs_cli_lines.specs.declared.printed.Printed.{Printed}

-- a line with its end
abbrev pub ended_line : List ℕ → List ℕ
ended_line line = line ++ 10 ∷ []

-- The run printed what it had to, as far as standard output took it. `Has` says which text that was, and where what the
-- run did stopped, if it did.
abbrev pub PrintsText : (List ℕ → Option Refusal → Type 0) → Printed → Option (List ℕ) → Option (List ℕ) → Type 0
PrintsText Has printed old new =
    (text : List ℕ) × (stopped : Option Refusal) × Has text stopped × Prints text stopped printed old new
