-- Tables whose first column is the number of their records.
use Rattle.std.proofs.Common.{◌≡◌, ℕ, ◌+◌, ℤ, pos, zero, suc, Bool, true, ◌&&◌, List, [], ◌∷◌, map, length, IsTrue}
use Rattle.std.proofs.Common.{IsPermutation, refl, sym, ap, ap₂, subst, subst₂, ◌∙◌, add-one, Some, cond, arith}
use Rattle.std.specs.List.{AllByRecursion, range_with_len}
use Rattle.std.specs.Ordering.{int_cmp, on}
use Rattle.std.specs.declared.cmp.Ordering.{Ordering}
use Rattle.std.specs.declared.cmp.Ordering.TheVariants.{Less}
use Rattle.std.proofs.lemmas.Cmp.{on_total}
use Rattle.sqlite_value.proofs.OrderLemmas.{value_cmp-Int, value_cmp_total}
use Rattle.sqlite_value.specs.Order.{value_cmp}
use Rattle.sqlite.specs.declared.types.Value.{Value}
use Rattle.sqlite.specs.declared.types.Value.TheVariants.{Null, Int, Real, Text, Blob}
use Rattle.sqlite.specs.Order.{Row, column}
use Rattle.sqlite.specs.Schema.{Schema}
use Rattle.sqlite.specs.Table.{Table}
use Rattle.sqlite.specs.Tree.{Trees, IsAscending}
use Rattle.sqlite_trees.specs.Tree.{rowid}
use Rattle.sqlite_trees.specs.View.{is_int}
use Rattle.sqlite_sql.specs.Ops.{is_null}
use Rattle.sqlite_schema.specs.Names.{place_of, is_key}
use Rattle.sqlite_schema.specs.Rules.{passes, are_typed, has_computed}
use Rattle.sqlite_schema.specs.declared.schema.Column.{Column}
use Rattle.sqlite_schema.specs.declared.schema.Constraint.TheVariants.{Datatype}
use Rattle.sqlite_keyed.proofs.SortLemmas.{sorted_unique}
use Rattle.sqlite_keyed.proofs.ListLemmas.{all-map, all_both, ascending-map, ascending_weaker}
use Rattle.rtgs_rows.specs.Tables.{width, places}
use Rattle.rtgs_rows.specs.Content.{Rise}
use Rattle.rtgs_rows.specs.Querying.{AreNumberedRows, picked, ShowsTable}
use Rattle.rtgs_rows.proofs.Unique.{sorted_from}

-- ---- a row by its columns

shifted : (v : Value) (row : Row) (a n : ℕ) → map (column (v ∷ row)) (range_with_len (a + 1) n)
    ≡ map (column row) (range_with_len a n)
shifted v row a zero = refl
shifted v row a (suc n) = ap₂ ◌∷◌ (ap (column (v ∷ row)) (add-one a)) (shifted v row (a + 1) n)

by_columns : (row : Row) → map (column row) (range_with_len 0 (length row)) ≡ row
by_columns [] = refl
by_columns (v ∷ row) = ap (λ more. v ∷ more) (shifted v row 0 (length row) ∙ by_columns row)

pub by_width : (row : Row) (n : ℕ) → length row ≡ n → map (column row) (range_with_len 0 n) ≡ row
by_width row n is = ap (λ k. map (column row) (range_with_len 0 k)) (sym is) ∙ by_columns row

no_value : (v : Value) (rest more : Bool) → ((is_null v && rest) && more) ≡ true → v ≡ Null
no_value Null rest more h = refl
no_value (Int n) rest more h = absurd cc
no_value (Real x) rest more h = absurd cc
no_value (Text t) rest more h = absurd cc
no_value (Blob b) rest more h = absurd cc

-- ---- where the first column is the row number, the row has null in its place

null_in_place : (schema : Schema) (db : Trees) (table : Table) (first : Column) (more : List Column) (row : Row)
    → table.key ≡ Some 0 → table.columns ≡ first ∷ more → length row ≡ length (first ∷ more) + 1
    → passes Datatype schema db table row ≡ true → column row 1 ≡ Null
null_in_place schema db table first more [] key columns is h = absurd (omega arith)
null_in_place schema db table first more (id ∷ []) key columns is h = absurd (omega arith)
null_in_place schema db table first more (id ∷ v ∷ row) key columns is h =
    let typed : (are_typed (Some 0) 0 (first ∷ more) (v ∷ row) && has_computed table (id ∷ v ∷ row)) ≡ true =
    subst₂ (λ k cs. (are_typed k 0 cs (v ∷ row) && has_computed table (id ∷ v ∷ row)) ≡ true) key columns h in
    no_value v _ _ typed

-- ---- a table in the order of its row numbers

abbrev by_first : Row → Row → Ordering
by_first = on (λ row. column row 0) value_cmp

each_is : {A : Type 0} (row shown : A → Row) (shown_places : List ℕ) (Good : Row → Type 0)
    → ((r : Row) (a : A) → Good r → picked shown_places r ≡ shown a → r ≡ row a)
    → (rs : List Row) (all : List A) → AllByRecursion Good rs → map (picked shown_places) rs ≡ map shown all
    → rs ≡ map row all
each_is row shown shown_places Good is [] [] good e = refl
each_is row shown shown_places Good is [] (a ∷ all) good e = absurd cc
each_is row shown shown_places Good is (r ∷ rs) [] good e = absurd cc
each_is row shown shown_places Good is (r ∷ rs) (a ∷ all) good e =
    let first : picked shown_places r ≡ shown a = cc in
    let rest : map (picked shown_places) rs ≡ map shown all = cc in
    ap₂ ◌∷◌ (is r a good.0 first) (each_is row shown shown_places Good is rs all good.1 rest)

-- the rows, whose numbers rise, are those of the records that are shown, whose numbers rise
stored_are : {A : Type 0} (row shown : A → Row) (number : A → ℕ) (more : List ℕ) (Good : Row → Type 0)
    → ((r : Row) (a : A) → Good r → picked (0 ∷ more) r ≡ shown a → r ≡ row a)
    → ((a : A) → column (shown a) 0 ≡ Int (pos (number a))) → (rs : List Row) (all : List A)
    → IsAscending (λ a b. value_cmp (rowid a) (rowid b) ≡ Less) rs → AllByRecursion Good rs
    → Rise (λ a. pos (number a)) all → IsPermutation (map (picked (0 ∷ more)) rs) (map shown all) → rs ≡ map row all
stored_are {A = A} row shown number more Good is first rs all up good rise same =
    let strict = ascending-map (λ (a b : Row). by_first a b ≡ Less) (picked (0 ∷ more)) rs up in
    let rising = ascending-map (λ (a b : Row). by_first a b ≡ Less) shown all
    (ascending_weaker (λ (a b : A). int_cmp (pos (number a)) (pos (number b)) ≡ Less)
    (λ (a b : A). by_first (shown a) (shown b) ≡ Less) (λ a b low. ap₂ value_cmp (first a) (first b)
    ∙ value_cmp-Int (pos (number a)) (pos (number b)) ∙ low) all rise) in
    let total = on_total (λ row. column row 0) value_cmp_total in
    each_is row shown (0 ∷ more) Good is rs all good (sym (sorted_unique by_first total _ _ strict same
    (sorted_from by_first total _ rising)))

-- ---- a table and its records

-- the first column is the row number
abbrev pub IsNumbered : Table → Type 0
IsNumbered table = (table.key ≡ Some 0) × (first : Column) × (more : List Column) × (table.columns ≡ first ∷ more)

-- How records stand in the rows of the table: each under its number, with a value for each column, and shown with its
-- number first. A row that shows a record is its row.
pub record StandsByNumber {A : Type 0} (table : Table) (row shown : A → Row) (number : A → ℕ) : Type 0 where
  pub numbered : IsNumbered table
  pub stands : (a : A) → (rowid (row a) ≡ Int (pos (number a))) × (length (row a) ≡ width table + 1)
      × (column (shown a) 0 ≡ Int (pos (number a)))
  pub only : (r : Row) (a : A) → map (column r) (range_with_len 0 (width table + 1)) ≡ r → column r 1 ≡ Null
      → picked (places table) r ≡ shown a → r ≡ row a

places_begin : (table : Table) (is : IsNumbered table)
    → places table ≡ 0 ∷ map (place_of table) (range_with_len 1 (length is.2))
places_begin table is =
    ap (λ cs. map (place_of table) (range_with_len 0 (length cs))) is.3
    ∙ ap (λ k. cond (is_key k 0) 0 1 ∷ map (place_of table) (range_with_len 1 (length is.2))) is.0

-- the rows of the table are whole, and each value has its column's type
abbrev pub AreWholeAndTyped : Schema → Trees → Table → Type 0
AreWholeAndTyped schema trees table = AreNumberedRows (width table) (trees table.tree)
    × AllByRecursion (λ r. passes Datatype schema trees table r ≡ true) (trees table.tree)

-- where the table shows records, its rows are theirs
pub rows_are : {A : Type 0} {table : Table} {row shown : A → Row} {number : A → ℕ}
    → StandsByNumber table row shown number
    → (schema : Schema) (trees : Trees) (all : List A) → AreWholeAndTyped schema trees table
    → Rise (λ a. pos (number a)) all → ShowsTable table trees (map shown all) → trees table.tree ≡ map row all
rows_are {table = table} {row = row} {shown = shown} {number = number} is schema trees all are rise same =
    let begin = places_begin table is.numbered in
    let Typed = λ (r : Row). passes Datatype schema trees table r ≡ true in
    let Good = λ (r : Row). (length r ≡ width table + 1) × (column r 1 ≡ Null) in
    stored_are row shown number (map (place_of table) (range_with_len 1 (length is.numbered.2))) Good
    (λ r a good e. is.only r a (by_width r _ good.0) good.1 (ap (λ ps. picked ps r) begin ∙ e)) (λ a. (is.stands a).2)
    (trees table.tree) all are.0.0
    (all_both (λ r. IsTrue (is_int (rowid r)) × (length r ≡ width table + 1)) Typed Good (λ r is_whole passed. (
      is_whole.1,
      null_in_place schema trees table is.numbered.1 is.numbered.2 r is.numbered.0 is.numbered.3
          (is_whole.1 ∙ ap (λ cs. length cs + 1) is.numbered.3) passed,
    )) (trees table.tree) are.0.1 are.1) rise
    (subst (λ ps. IsPermutation (map (picked ps) (trees table.tree)) (map shown all)) begin same)

-- rows of records under rising numbers
pub are_numbered : {A : Type 0} (count : ℕ) (row : A → Row) (id : A → ℤ)
    → ((a : A) → (rowid (row a) ≡ Int (id a)) × (length (row a) ≡ count + 1)) → (all : List A) {rows : List Row}
    → rows ≡ map row all → Rise id all → AreNumberedRows count rows
are_numbered {A = A} count row id first all are up =
    let low = ascending_weaker (λ (a b : A). int_cmp (id a) (id b) ≡ Less)
    (λ (a b : A). value_cmp (rowid (row a)) (rowid (row b)) ≡ Less)
    (λ a b h. ap₂ value_cmp (first a).0 (first b).0 ∙ value_cmp-Int (id a) (id b) ∙ h) all up in
    subst (AreNumberedRows count) (sym are) (
      ascending-map (λ (a b : Row). value_cmp (rowid a) (rowid b) ≡ Less) row all low,
      all-map (λ r. IsTrue (is_int (rowid r)) × (length r ≡ count + 1)) row
          (λ a. (ap is_int (first a).0, (first a).1)) all,
    )

pub numbered_rows : {A : Type 0} {table : Table} {row shown : A → Row} {number : A → ℕ}
    → StandsByNumber table row shown number → (all : List A) {rows : List Row} → rows ≡ map row all
    → Rise (λ a. pos (number a)) all → AreNumberedRows (width table) rows
numbered_rows {table = table} {row = row} {number = number} is =
    are_numbered (width table) row (λ a. pos (number a)) (λ a. ((is.stands a).0, (is.stands a).1))
