-- Flags that say which indexes stand in a list.
use Rattle.std.specs.Prelude.{◌≡◌, ℕ, Bool, true, false, List, ◌==◌, length, count_by, slice_index_or, if◌then◌else◌}

-- an index stands in the list
abbrev pub IsOn : List Bool → ℕ → Type 0
IsOn flags p = slice_index_or flags p false ≡ true

-- how many indexes stand in the list
abbrev pub on_count : List Bool → ℕ
on_count flags = count_by (λ flag. flag) flags

-- each index stands in the stack once where its flag says so, and nothing else does
pub record IsListed (stack : List ℕ) (flags : List Bool) : Type 0 where
  pub counted : length stack ≡ on_count flags
  pub listed : (p : ℕ) → count_by (λ index. index == p) stack ≡ (if slice_index_or flags p false then 1 else 0)
