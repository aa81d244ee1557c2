-- Lines that need no quotes.
use Rattle.std.specs.Prelude.{◌≢◌, ℕ, List, [], ◌∷◌, ◌++◌}
use Rattle.std.specs.List.{AllByRecursion, join_with_byte}

-- none of these bytes is a comma, a quote or the end of a line
abbrev pub IsPlain : List ℕ → Type 0
IsPlain bytes = AllByRecursion (λ byte. (byte ≢ 44) × (byte ≢ 34) × (byte ≢ 13) × (byte ≢ 10)) bytes

-- four fields with commas between them, and a line feed
abbrev pub joined : List ℕ → List ℕ → List ℕ → List ℕ → List ℕ
joined reference result number detail = join_with_byte 44 (reference ∷ result ∷ number ∷ detail ∷ []) ++ 10 ∷ []
