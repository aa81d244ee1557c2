-- What a check adds up: sums under keys, as a map holds them.
use Rattle.std.specs.Prelude.{◌≡◌, ℕ, ℤ, pos, neg_ℤ, ◌≤ℤ◌, List, Some, None, if◌then◌else◌}
use Rattle.std.specs.declared.cmp.Ordering.{Ordering}
use Rattle.std.specs.BTreeMap.{BTreeMap, get}
use Rattle.std.specs.Ordering.{eq_by_cmp}
use Rattle.std.specs.Set.{is_member}

-- each key has its sum, and nothing else has one
abbrev pub Totals : {K : Type 0} → (K → K → Ordering) → List K → (K → ℤ) → BTreeMap K ℤ → Type 0
Totals {K} cmp keys sum_of totals = (key : K) → get cmp totals key
    ≡ (if is_member (eq_by_cmp cmp) keys key then Some (sum_of key) else None)

-- between minus the bound and the bound
abbrev pub Within : ℕ → ℤ → Type 0
Within bound z = (neg_ℤ (pos bound) ≤ℤ z) × (z ≤ℤ pos bound)

-- no sum is past the bound
abbrev pub AreWithin : {K : Type 0} → (K → K → Ordering) → ℕ → BTreeMap K ℤ → Type 0
AreWithin {K} cmp bound totals = (key : K) (total : ℤ) → get cmp totals key ≡ Some total → Within bound total
