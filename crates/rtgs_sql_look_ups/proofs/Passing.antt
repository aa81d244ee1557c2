-- Which rows a test passes.
use Rattle.std.proofs.Common.{◌≡◌, ℕ, pos, ◌==◌, List, Bool, true, false, ◌&&◌, Some}
use Rattle.std.proofs.Common.{eq-eqb, eqb-true, refl, ap, ◌∙◌}
use Rattle.std.specs.Ordering.{int_cmp, is_eq}
use Rattle.std.specs.Cmp.{both_ways, ranked_equal, int_ranks}
use Rattle.sqlite.specs.declared.types.Value.TheVariants.{Int, Text}
use Rattle.sqlite.specs.Order.{value_cmp}
use Rattle.sqlite_value.proofs.OrderLemmas.{value_cmp-Int, value_cmp-Text}
use Rattle.std.specs.Str.{bytes_eq}
use Rattle.std.proofs.lemmas.Map.Text.{is_eq-slice_cmp}
use Rattle.sqlite_sql.specs.Ops.{is_true, from_truth}

pub truth_of : (b : Bool) → is_true (from_truth (Some b)) && true ≡ b
truth_of true = refl
truth_of false = refl

-- as SQL compares numbers
pub same_number : (m n : ℕ) → is_eq (value_cmp (Int (pos m)) (Int (pos n))) ≡ (m == n)
same_number m n =
    let tells = ranked_equal (pos m) (pos n) (int_cmp (pos m) (pos n)) (int_ranks (pos m) (pos n)) in
    ap is_eq (value_cmp-Int (pos m) (pos n)) ∙ both_ways _ _
    (λ e. eq-eqb m n (let same : pos m ≡ pos n = tells.0 e in cc)) (λ e. tells.1 (ap pos (eqb-true m n e)))

-- and texts
pub same_text : (a b : List ℕ) → is_eq (value_cmp (Text a) (Text b)) ≡ bytes_eq a b
same_text a b = ap is_eq (value_cmp-Text a b) ∙ is_eq-slice_cmp a b
