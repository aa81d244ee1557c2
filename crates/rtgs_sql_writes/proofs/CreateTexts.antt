-- What each text of a new file means under the schema that it meets.
use Rattle.std.proofs.Common.{◌≡◌, ℕ, ◌<◌, Bor, List, [], ◌∷◌, get_or, length, refl, pos}
use Rattle.sqlite.specs.declared.types.Value.TheVariants.{Null, Int}
use Rattle.sqlite.specs.Term.{Term, lit, col}
use Rattle.sqlite.specs.Source.TheVariants.{Values}
use Rattle.sqlite.specs.Command.TheVariants.{Insert}
use Rattle.sqlite_tied.specs.Compute.{everything}
use Rattle.sqlite.specs.Listing.{understood}
use Rattle.rtgs_rows.specs.Tables.{known_tables, desk_table, with_tables, schema_in}
use Rattle.rtgs_sql_writes.specs.declared.create.TheConstants.{NAMES, TABLES, FIRST_DAY, FIRST_CHOICE}
use Rattle.rtgs_sql_writes.specs.Building.{MakesTable}
use Rattle.rtgs_sql_writes.proofs.Lists.{EachAt, each_at}
use Rattle.rtgs_sql_writes.proofs.Writing.{IsUnderstoodAs}

-- of texts that each make the table at their place, one does so
pub made_at : (texts : List (Bor (List ℕ))) → EachAt (λ at text. MakesTable at text.now) texts → (at : ℕ)
    (d : Bor (List ℕ)) → at < length texts → MakesTable at (get_or texts at d).now
made_at = each_at (λ at text. MakesTable at text.now)

-- each text makes the table at its place
pub all_made : EachAt (λ at text. MakesTable at text.now) TABLES
unfolding understood everything with_tables
all_made = assumption refl

-- and each name is that of the table at its place
pub name_at : (names : List (Bor (List ℕ)))
    → EachAt (λ at name. name.now ≡ (get_or known_tables at desk_table).name) names → (at : ℕ) (d : Bor (List ℕ))
    → at < length names → (get_or names at d).now ≡ (get_or known_tables at desk_table).name
name_at = each_at (λ at name. name.now ≡ (get_or known_tables at desk_table).name)

pub all_named : EachAt (λ at name. name.now ≡ (get_or known_tables at desk_table).name) NAMES
all_named = assumption refl

abbrev pub first_terms : List Term
first_terms = lit (Int (pos 1)) ∷ lit Null ∷ col 0 0 ∷ lit Null ∷ lit (Int (pos 0)) ∷ []

pub first_day_means : IsUnderstoodAs FIRST_DAY.now (Insert 0 (Values first_terms 5))
unfolding understood everything schema_in
first_day_means = record { is = refl; plain = (refl, refl) }

abbrev pub choice_terms : List Term
choice_terms = lit (Int (pos 1)) ∷ lit Null ∷ lit (Int (pos 0)) ∷ []

pub first_choice_means : IsUnderstoodAs FIRST_CHOICE.now (Insert 6 (Values choice_terms 3))
unfolding understood everything schema_in
first_choice_means = record { is = refl; plain = (refl, refl) }
