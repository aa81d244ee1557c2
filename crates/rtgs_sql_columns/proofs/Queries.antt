-- The answer of a query over one table, whatever the schema is.
use Rattle.std.proofs.Common.{◌≡◌, inl, inr, ℕ, List, [], ◌∷◌, map, filter, flat_map, cond, refl, sym, ap, subst, ◌∙◌}
use Rattle.std.specs.List.Sorted.{IsPermutation}
use Rattle.std.proofs.lemmas.List.Sorted.{IsPermutation-map}
use Rattle.std.proofs.lemmas.Bool.{cases_Bool}
use Rattle.sqlite.specs.Order.{Row}
use Rattle.sqlite_value.specs.declared.keys.Key.{Key}
use Rattle.sqlite.specs.Term.{Term}
use Rattle.sqlite.specs.Query.{Query, IsAnswer, output, Output}
use Rattle.sqlite.specs.Tree.{Trees}
use Rattle.rtgs_sql_columns.specs.OneTable.{simple, passes, shows, Sorts}

matched : (tests : List Term) (params : Row) (rows : List Row)
    → flat_map (λ r. cond (passes tests params r) ((params ∷ r ∷ []) ∷ []) []) rows
    ≡ map (λ r. params ∷ r ∷ []) (filter (passes tests params) rows)
matched tests params [] = refl
matched tests params (r ∷ rows) = elim (cases_Bool (passes tests params r)) [
  | inl hit ↦ rw (hit, matched tests params rows)
  | inr miss ↦ rw (miss, matched tests params rows)
]

outputs : (q : Query) (params : Row) (rows : List Row) → map (output q) (map (λ r. params ∷ r ∷ []) rows)
    ≡ map (λ r. output q (params ∷ r ∷ [])) rows
outputs q params [] = refl
outputs q params (r ∷ rows) = ap (λ more. output q (params ∷ r ∷ []) ∷ more) (outputs q params rows)

shown_of : (q : Query) (params : Row) (rows : List Row) → map (λ (o : Output). o.1)
    (map (λ r. output q (params ∷ r ∷ [])) rows) ≡ map (shows q.project params) rows
shown_of q params [] = refl
shown_of q params (r ∷ rows) = ap (λ more. shows q.project params r ∷ more) (shown_of q params rows)

pub sorts : (t : ℕ) (tests project : List Term) (order : List (Term × Key)) (db : Trees) (params : Row)
    (rows : List Row) → IsAnswer (simple t tests project order) db params rows
    → Sorts (simple t tests project order) params (filter (passes tests params) (db t)) rows
sorts t tests project order db params rows a =
    let q = simple t tests project order in
    let staged : a.staged ≡ map (λ r. params ∷ r ∷ []) (filter (passes tests params) (db t)) = a.grouped
    ∙ matched tests params (db t) in
    let kept : a.kept ≡ map (λ r. output q (params ∷ r ∷ [])) (filter (passes tests params) (db t)) = a.distinct
    ∙ ap (map (output q)) staged ∙ outputs q params _ in
    record {
      ordered = a.ordered;
      same = subst (λ k. IsPermutation k a.ordered) kept a.same;
      sorted = a.sorted;
      shown = a.shown;
    }

-- the rows shown, in some order
pub moved : (q : Query) (params : Row) (passed rows : List Row) → Sorts q params passed rows
    → IsPermutation (map (shows q.project params) passed) rows
moved q params passed rows s =
    subst (λ xs. IsPermutation xs rows) (shown_of q params passed)
    (subst (λ ys. IsPermutation (map (λ (o : Output). o.1) (map (λ r. output q (params ∷ r ∷ [])) passed)) ys)
    (sym s.shown) (IsPermutation-map (λ (o : Output). o.1) _ _ s.same))
