-- A query of one table: which rows it passes, and what it shows of them.
use Rattle.std.specs.Prelude.{◌≡◌, ℕ, pos, negsuc, Bool, false, List, [], ◌∷◌, map, filter, None}
use Rattle.std.specs.List.{list_all}
use Rattle.std.specs.List.Sorted.{IsPermutation, IsSorted}
use Rattle.sqlite_value.specs.declared.keys.Key.{Key}
use Rattle.sqlite.specs.declared.types.Value.TheVariants.{Int}
use Rattle.sqlite.specs.Order.{Row}
use Rattle.sqlite.specs.Term.{Term, lit}
use Rattle.sqlite.specs.Tree.{Trees}
use Rattle.sqlite.specs.Query.{Query, inner, end, IsAnswer, output, Output}
use Rattle.sqlite_sql.specs.Term.{eval_all, holds}
use Rattle.sqlite_sql.specs.Query.{output_cmp}

-- SELECT project FROM t WHERE tests ORDER BY order
abbrev pub simple : ℕ → List Term → List Term → List (Term × Key) → Query
simple t tests project order = record {
  from = inner t end;
  filter = tests;
  group = None;
  project = project;
  distinct = false;
  collations = [];
  order = order;
  limit = lit (Int (negsuc 0));
  offset = lit (Int (pos 0));
}

-- the row passes the tests
abbrev pub passes : List Term → Row → Row → Bool
passes tests params row = list_all (holds (params ∷ row ∷ [])) tests

-- what is shown of the row
abbrev pub shows : List Term → Row → Row → Row
shows project params row = eval_all project (params ∷ row ∷ [])

-- what is shown, with what it was sorted by
pub record Sorts (q : Query) (params : Row) (passed rows : List Row) : Type 0 where
  pub ordered : List Output
  pub same : IsPermutation (map (λ r. output q (params ∷ r ∷ [])) passed) ordered
  pub sorted : IsSorted (output_cmp q) ordered
  pub shown : rows ≡ map (λ (o : Output). o.1) ordered

-- The rows that pass are sorted; and what is sorted shows each row that passes, in some order.
pub record OneTableAnswers : Type 0 where
  pub sorted : (t : ℕ) (tests project : List Term) (order : List (Term × Key)) (db : Trees) (params : Row)
      (rows : List Row) → IsAnswer (simple t tests project order) db params rows
      → Sorts (simple t tests project order) params (filter (passes tests params) (db t)) rows
  pub shown : (q : Query) (params : Row) (passed rows : List Row) → Sorts q params passed rows
      → IsPermutation (map (shows q.project params) passed) rows
