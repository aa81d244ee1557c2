-- What holds of an input.
use Rattle.std.proofs.Common.{ℕ, List, Option, Some, None}
use Rattle.rtgs_http_server.specs.input.Input.{OfInput}

-- what follows from what holds of it
pub of_same : (left : Option (List ℕ)) (P Q : List ℕ → Type 0) → ((input : List ℕ) → P input → Q input)
    → OfInput left P → OfInput left Q
of_same None P Q f h = (h.0, f h.0 h.1)
of_same (Some x) P Q f h = f x h
