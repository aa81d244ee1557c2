-- What a writer holds after a write that failed, and how a fault of a text is displayed.
use Rattle.std.specs.Prelude.{ℕ, ◌<◌, List, Option, None, Some, codes, take, length}
use Rattle.std.specs.Io.KnownBytes.{Appends}
use Rattle.rtgs_output.specs.declared.text_fault.TextFault.{TextFault}
use Rattle.rtgs_output.specs.declared.text_fault.TextFault.TheVariants.{OutOfMemory, Write}

-- known bytes grow by a beginning of the text, which is not all of it
abbrev pub AppendsPart : Option (List ℕ) → Option (List ℕ) → List ℕ → Type 0
AppendsPart old new text = (n : ℕ) × (n < length text) × Appends old new (take n text)

-- what is displayed of a fault; the words of a writer's error are its own
abbrev pub words_of : TextFault → Option (List ℕ)
words_of OutOfMemory = Some (codes "out of memory")
words_of (Write failed) = None
