-- Searching a list of records by date, where numbers rise and dates never fall along them.
use Rattle.std.specs.Prelude.{ℕ, ◌<◌, ◌≤◌, ◌==◌, Bool, false, ◌&&◌, nat_lt, List, Option, Some, None, if◌then◌else◌}
use Rattle.std.specs.List.{AllByRecursion, find}

-- the first with a number above this one
abbrev pub first_above : {A : Type 0} → (A → ℕ) → ℕ → List A → Option A
first_above number n = find (λ x. nat_lt n (number x))

-- of this date the first with a number above this one
abbrev pub first_of_date : {A : Type 0} → (A → ℕ) → (A → ℕ) → ℕ → ℕ → List A → Option A
first_of_date number date d n = find (λ x. (date x == d) && nat_lt n (number x))

-- what was found is of an earlier date
abbrev pub is_early_found : {A : Type 0} → (A → ℕ) → ℕ → Option A → Bool
is_early_found date d None = false
is_early_found date d (Some x) = nat_lt (date x) d

-- what was found, where it is of this date
abbrev pub kept_of_date : {A : Type 0} → (A → ℕ) → ℕ → Option A → Option A
kept_of_date date d None = None
kept_of_date date d (Some x) = if date x == d then Some x else None

-- up to this number each is of an earlier date
abbrev pub IsEarly : {A : Type 0} → (A → ℕ) → (A → ℕ) → ℕ → ℕ → List A → Type 0
IsEarly number date d n = AllByRecursion (λ x. number x ≤ n → date x < d)

-- past this number none is
abbrev pub IsLate : {A : Type 0} → (A → ℕ) → (A → ℕ) → ℕ → ℕ → List A → Type 0
IsLate number date d n = AllByRecursion (λ x. n < number x → d ≤ date x)

-- up to the lower number each is of an earlier date, and past the higher one none is
abbrev pub TurnsBetween : {A : Type 0} → (A → ℕ) → (A → ℕ) → ℕ → ℕ → ℕ → List A → Type 0
TurnsBetween number date d low high xs = IsEarly number date d low xs × IsLate number date d high xs
