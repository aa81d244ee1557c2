-- The values of the fields with one name, as far as their number matters.
use Rattle.std.specs.Prelude.{◌≡◌, ◌≤◌, ℕ, List, [], ◌∷◌, length}
use Rattle.rtgs_http_requests.specs.declared.heads.named_values.NamedValues.{NamedValues}
use Rattle.rtgs_http_requests.specs.declared.heads.named_values.NamedValues.TheVariants as named

abbrev pub AreNamed : List (List ℕ) → NamedValues → Type 0
AreNamed values named.None = values ≡ []
AreNamed values (named.One value) = values ≡ value.now ∷ []
AreNamed values named.More = 2 ≤ length values
