-- The region of a request's head (RFC 9112, section 2.1): the shortest beginning of the input that ends with an empty
-- line.
use Rattle.std.specs.Prelude.{◌≡◌, ◌<◌, ◌≤◌, Bool, true, false, ℕ, List, [], ◌∷◌, ◌++◌, length, take, nat_eq}
use Rattle.std.specs.List.{ends_with}
use Rattle.rtgs_http_requests.specs.declared.feeds.limits.TheConstants.{LONGEST_HEAD}
use Rattle.rtgs_http_requests.specs.declared.feeds.head_step.HeadStep.{HeadStep}
use Rattle.rtgs_http_requests.specs.declared.feeds.head_step.HeadStep.TheVariants.{More, Region, TooLong}

-- the end of a line and an empty line
abbrev pub empty_line : List ℕ
empty_line = 13 ∷ 10 ∷ 13 ∷ 10 ∷ []

-- the bytes end with an empty line
abbrev pub ends_region : List ℕ → Bool
ends_region bytes = ends_with nat_eq bytes empty_line

-- No beginning of the bytes ends with an empty line.
abbrev pub HasNoEnd : List ℕ → Type 0
HasNoEnd bytes = (m : ℕ) → m ≤ length bytes → ends_region (take m bytes) ≡ false

-- The bytes end with an empty line, no shorter beginning does, and they are no more than a region may have.
pub record IsRegion (bytes : List ℕ) : Type 0 where
  pub ends : ends_region bytes ≡ true
  pub first : (m : ℕ) → m < length bytes → ends_region (take m bytes) ≡ false
  pub short : length bytes ≤ LONGEST_HEAD

-- The bytes hold no region, and may become one.
abbrev pub IsOpen : List ℕ → Type 0
IsOpen bytes = HasNoEnd bytes × (length bytes < LONGEST_HEAD)

-- As many bytes as a region may have hold none.
abbrev pub IsTooLong : List ℕ → Type 0
IsTooLong bytes = (LONGEST_HEAD ≤ length bytes) × HasNoEnd (take LONGEST_HEAD bytes)

-- The input is a region and then the rest.
abbrev pub StartsWith : List ℕ → List ℕ → List ℕ → Type 0
StartsWith input region rest = (input ≡ region ++ rest) × IsRegion region

-- what a piece makes of the bytes so far
abbrev pub TakesHead : List ℕ → List ℕ → HeadStep → List ℕ → Type 0
TakesHead old piece More new = (new ≡ old ++ piece) × IsOpen new
TakesHead old piece (Region taken) new = (taken ≤ length piece) × (new ≡ old ++ take taken piece) × IsRegion new
TakesHead old piece TooLong new = (new ≡ take LONGEST_HEAD (old ++ piece)) × IsTooLong (old ++ piece)
