-- What the parameters of a route took of a target.
use Rattle.std.specs.Prelude.{ℕ, List, [], ◌∷◌}
use Rattle.rtgs_http_requests.specs.declared.heads.parameters.Parameters.{Parameters}

-- what the first took and what the second took, each empty where the route has it not
pub record Parts : Type 0 where
  pub first : List ℕ
  pub second : List ℕ

abbrev pub no_parts : Parts
no_parts = record { first = []; second = [] }

-- what the first of these names took
abbrev pub first_part : List (List ℕ × List ℕ) → List ℕ
first_part [] = []
first_part (part ∷ parts) = part.1

-- what the first two of these names took
abbrev pub parts_of : List (List ℕ × List ℕ) → Parts
parts_of [] = no_parts
parts_of (part ∷ parts) = record { first = part.1; second = first_part parts }

-- the bytes of what was taken
abbrev pub taken : Parameters → Parts
taken parameters = record { first = parameters.first.now; second = parameters.second.now }
