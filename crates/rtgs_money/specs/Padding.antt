-- A text in a room of fixed size, with zeros behind it.
use Rattle.std.specs.Prelude.{◌≡◌, ℕ, ◌-◌, List, ◌++◌, length, take, drop, replicate}
use Rattle.std.proofs.Common.{ap, sym, ◌∙◌, take-append-drop}

-- the text with zeros behind it, up to the size
abbrev pub padded : ℕ → List ℕ → List ℕ
padded size text = text ++ replicate (size - length text) 0

-- this many bytes are the text, and behind them stand zeros alone, up to the size
abbrev pub IsPadded : ℕ → List ℕ → ℕ → Type 0
IsPadded size bytes len = (length (take len bytes) ≡ len) × (drop len bytes ≡ replicate (size - len) 0)

pub padded-take : (size : ℕ) (bytes : List ℕ) (len : ℕ) → length (take len bytes) ≡ len
    → drop len bytes ≡ replicate (size - len) 0 → padded size (take len bytes) ≡ bytes
padded-take size bytes len l d = ap (λ n. take len bytes ++ replicate (size - n) 0) l ∙ ap (λ r. take len bytes ++ r)
    (sym d) ∙ take-append-drop len bytes
