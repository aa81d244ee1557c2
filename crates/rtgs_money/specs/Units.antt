-- Cents shown as units with two decimals.
use Rattle.std.specs.Prelude.{ℕ, ◌/◌, ◌%◌, List, ◌∷◌, ◌++◌, decimal, ℤ, unsigned_abs}
use Rattle.std.specs.Int.{is_negative}
use Rattle.std.specs.Fmt.{sign_text}
use Rattle.rtgs_money.specs.Digits.{digits}

-- units, a point and two decimals, with a minus below 0
unfoldable pub units_text : ℤ → List ℕ
units_text z = sign_text (is_negative z) ++ (decimal (unsigned_abs z / 100) ++ 46 ∷ digits 2 (unsigned_abs z % 100))
