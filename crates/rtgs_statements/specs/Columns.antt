-- Texts and numbers in columns.
use Rattle.std.specs.Prelude.{ℕ, ◌-◌, List, ◌++◌, length, replicate, decimal}

-- a text with spaces after it, up to a width
unfoldable pub left_in : ℕ → List ℕ → List ℕ
left_in width text = text ++ replicate (width - length text) 32

-- a text with spaces before it, up to a width
unfoldable pub right_in : ℕ → List ℕ → List ℕ
right_in width text = replicate (width - length text) 32 ++ text

-- a number in decimal with zeros before it, up to a width
unfoldable pub zeros_in : ℕ → ℕ → List ℕ
zeros_in width n = replicate (width - length (decimal n)) 48 ++ decimal n
