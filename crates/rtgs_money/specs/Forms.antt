-- The forms of names and keys, over their bytes.
use Rattle.std.specs.Prelude.{ℕ, ◌-◌, Bool, ◌&&◌, ◌||◌, ◌==◌, nat_le, List, length, IsTrue, not, slice_index}
use Rattle.std.specs.List.{list_all}
use Rattle.rtgs_money.specs.declared.code.TheConstants.Code as code
use Rattle.rtgs_money.specs.declared.reference.TheConstants.Reference as reference
use Rattle.rtgs_money.specs.declared.name.TheConstants.Name as name
use Rattle.rtgs_money.specs.declared.key.TheConstants.Key as key

-- b is from low to high
abbrev pub is_within : ℕ → ℕ → ℕ → Bool
is_within low high b = nat_le low b && nat_le b high

-- A-Z
abbrev pub is_capital : ℕ → Bool
is_capital = is_within 65 90

-- 0-9
abbrev pub is_digit : ℕ → Bool
is_digit = is_within 48 57

-- a capital or a digit
abbrev pub is_code_byte : ℕ → Bool
is_code_byte b = is_capital b || is_digit b

-- a capital, a digit or a dash
abbrev pub is_reference_byte : ℕ → Bool
is_reference_byte b = is_capital b || is_digit b || (b == 45)

-- a printable character
abbrev pub is_name_byte : ℕ → Bool
is_name_byte = is_within 32 126

-- 0-9 or a-f
abbrev pub is_key_byte : ℕ → Bool
is_key_byte b = is_digit b || is_within 97 102 b

-- a capital, then capitals and digits, SHORTEST to LONGEST in all
unfoldable pub is_code : List ℕ → Bool
is_code bytes =
    is_within code.SHORTEST code.LONGEST (length bytes)
    && is_capital (slice_index bytes 0) && list_all is_code_byte bytes

-- 1 to LONGEST capitals, digits and dashes
unfoldable pub is_reference : List ℕ → Bool
is_reference bytes = is_within 1 reference.LONGEST (length bytes) && list_all is_reference_byte bytes

-- 1 to LONGEST printable characters, with no space first or last
unfoldable pub is_name : List ℕ → Bool
is_name bytes =
    is_within 1 name.LONGEST (length bytes) && list_all is_name_byte bytes
    && not (slice_index bytes 0 == 32) && not (slice_index bytes (length bytes - 1) == 32)

-- LENGTH digits 0-9 and a-f
unfoldable pub is_key : List ℕ → Bool
is_key bytes = (length bytes == key.LENGTH) && list_all is_key_byte bytes

abbrev pub IsCode : List ℕ → Type 0
IsCode bytes = IsTrue (is_code bytes)

abbrev pub IsReference : List ℕ → Type 0
IsReference bytes = IsTrue (is_reference bytes)

abbrev pub IsName : List ℕ → Type 0
IsName bytes = IsTrue (is_name bytes)

abbrev pub IsKey : List ℕ → Type 0
IsKey bytes = IsTrue (is_key bytes)
