-- What the query of one whole table shows, and what it leaves.
use Rattle.std.proofs.Common.{◌≡◌, inl, inr, ℕ, ℤ, List, [], ◌∷◌, map, filter, true, false, Ok, Err, Result}
use Rattle.std.proofs.Common.{Option, None, cond, unwrap_or, nat_le, ◌^◌, IfOk, IfErr, Vec, Global, refl}
use Rattle.std.proofs.Common.{sym, ap, subst, ◌∙◌}
use Rattle.std.specs.List.Sorted.{IsPermutation}
use Rattle.std.proofs.lemmas.List.Sorted.{IsPermutation-trans}
use Rattle.std.specs.declared.cmp.Ordering.TheVariants.{Less}
use Rattle.sqlite.specs.declared.types.Value.TheVariants.{Null}
use Rattle.sqlite.specs.declared.error.Error.{Error}
use Rattle.sqlite.specs.Order.{Row, column}
use Rattle.sqlite.specs.Query.{Query, output, Output}
use Rattle.sqlite_sql.specs.Query.{output_cmp}
use Rattle.sqlite_sql.specs.Program.{overlay, QueryOverflows}
use Rattle.sqlite.specs.Term.{Term}
use Rattle.sqlite_value.specs.declared.keys.Key.{Key}
use Rattle.sqlite_sql.proofs.QueryLemmas.{output_cmp_total}
use Rattle.sqlite_keyed.proofs.SortLemmas.{sorted_unique}
use Rattle.sqlite_keyed.proofs.ListLemmas.{ascending-map, ascending_weaker, map-map, map_same, IsPermutation-same}
use Rattle.std.specs.Ordering.{int_cmp}
use Rattle.sqlite.specs.Schema.{Schema}
use Rattle.sqlite.specs.Table.{Table}
use Rattle.sqlite.specs.Tree.{Trees, IsAscending}
use Rattle.sqlite_schema.specs.Names.{place_of}
use Rattle.sqlite.specs.Effect.{Database}
use Rattle.sqlite.specs.State.{State, Shown}
use Rattle.sqlite.proofs.Callers.{reads_as}
use Rattle.sqlite.specs.Listing.{reads_listing}
use Rattle.sqlite_typing.specs.Types.{accepts_program}
use Rattle.rtgs_book.specs.declared.book.Book.{Book}
use Rattle.rtgs_book.specs.declared.account.Account.{Account}
use Rattle.rtgs_rows.specs.Tables.{places, HasTable}
use Rattle.rtgs_rows.specs.TableRecords.{TableRecords}
use Rattle.rtgs_sql_columns.specs.Tables.{column_names, query_text}
use Rattle.rtgs_rows.specs.Content.{Content, RestsIn, tables_of_in}
use Rattle.rtgs_rows.specs.Querying.{IsFileIn, picked}
use Rattle.rtgs_sql_queries.specs.Records.{AreRead}
use Rattle.rtgs_sql_queries.specs.Answering.{FailsAmid}
use Rattle.rtgs_sql_queries.specs.Faults.{IsOfStore}
use Rattle.rtgs_sql_queries.proofs.Versions.{asks_in}
use Rattle.rtgs_sql_queries.specs.TableQueries.{IsTableQuery, AsksTable, IsOneQuery, ShowsOwn, whole_table}
use Rattle.rtgs_sql_queries.specs.TableQueries.{rising_by, shown_columns, ShowsSorted}
use Rattle.rtgs_sql_queries.proofs.Refusals.{of_store}
use Rattle.rtgs_sql_queries.proofs.Resting.{schema_of}
use Rattle.rtgs_sql_columns.specs.OneTable.{simple, passes, shows, Sorts, OneTableAnswers}

-- it sums nothing, so nothing in it is too large
overflows_never : (t : ℕ) (project : List Term) (order : List (Term × Key)) (db : Trees) (params : Row)
    → ¬ QueryOverflows (simple t [] project order) db params
overflows_never t project order db params (inl none) = none
overflows_never t project order db params (inr some) = some.4

all_pass : (rows : List Row) → filter (passes [] []) rows ≡ rows
all_pass [] = refl
all_pass (r ∷ rows) = ap (λ more. r ∷ more) (all_pass rows)

shows_places : (columns : List ℕ) (row : Row) → shows (shown_columns columns) [] row ≡ picked columns row
shows_places [] row = refl
shows_places (at ∷ columns) row = ap (λ (more : Row). column row at ∷ more) (shows_places columns row)

-- no table of a query stands in place of one that is stored
none_given : (trees : Trees) (tree : ℕ) → overlay trees [] tree ≡ trees tree
none_given trees tree = elim (nat_le (2 ^ 31) tree) as (λ b. unwrap_or (cond {A = Option (List Row)} b None None)
    (trees tree) ≡ trees tree) [ true ↦ refl | false ↦ refl ]

module _ (t : Table) {own : Schema} (is : AsksTable t own) (old new : State) (schema_is : old.now.schema ≡ own) where
  asked : IsOneQuery old.now.schema (query_text t) 0 (record { lets = []; body = whole_table t }) (column_names t)
  asked = subst (λ k. IsOneQuery k (query_text t) 0 (record { lets = []; body = whole_table t }) (column_names t))
      (sym schema_is) is.asks

  pub refused : (r : Result (Vec Row Global) Error) → IfErr r (FailsAmid (query_text t) old new) → IfErr r IsOfStore
  refused (Ok rows) h = tt
  refused (Err e) (inl early) = of_store (query_text t) [] old new _ (column_names t) asked e
      (subst (λ s. reads_listing s (query_text t) ≡ false) (sym schema_is) is.unlisted)
      (subst (λ s. accepts_program s [] (whole_table t) [] ≡ true) (sym schema_is) is.typed)
      (overflows_never t.tree (shown_columns (places t)) (rising_by (place_of t 0)) (overlay old.now.trees []) []) early
  refused (Err e) (inr memory) = subst IsOfStore (sym memory.0) tt

  sorted : OneTableAnswers → (rows : List Row) → Shown (query_text t) [] old new rows
      → Sorts (whole_table t) [] (old.now.trees t.tree) rows
  sorted answers rows h =
      let read = reads_as (query_text t) [] old new own schema_is _ is.asks.command is.asks.plain is.unlisted rows h in
      subst (λ passed. Sorts (whole_table t) [] passed rows) (all_pass _ ∙ none_given old.now.trees t.tree)
      (answers.sorted t.tree [] (shown_columns (places t)) (rising_by (place_of t 0)) _ [] rows (read.answer Null))

module _ (t : Table) (is : IsTableQuery t) (version : ℕ) (has : HasTable version t) (old new : State) where
  -- it shows the columns that it names, of each row of the table, sorted by the first of them
  pub shows_all : OneTableAnswers → (trees : Trees) → IsFileIn version trees old → (r : Result (Vec Row Global) Error)
      → IfOk r (λ rows. Shown (query_text t) [] old new rows.items)
      → IfOk r (λ rows. ShowsSorted t trees rows.items)
  shows_all answers trees file (Err e) h = tt
  shows_all answers trees file (Ok rows) h =
      let here : old.now.trees t.tree ≡ trees t.tree = ap (λ (d : Database). d.trees t.tree) file.clean
      ∙ ap (λ (all : Trees). all t.tree) file.trees_are in
      let sorts = sorted t (asks_in t is version has) old new (schema_of trees old file) answers rows.items h in (
        subst (λ all. IsPermutation all rows.items)
            (map_same (shows (shown_columns (places t)) []) (picked (places t)) (shows_places (places t)) _
            ∙ ap (map (picked (places t))) here) (answers.shown (whole_table t) [] _ rows.items sorts),
        subst (λ stored. Sorts (whole_table t) [] stored rows.items) here sorts,
      )

-- over tables with records, it shows those that a book has of the table
pub shows_own : OneTableAnswers → {A : Type 0} (records : TableRecords A) → IsTableQuery records.table
    → ShowsOwn records → (version : ℕ) → HasTable version records.table → (old new : State)
    (content : Content) (accounts : List Account) (book : Book) → RestsIn version content old
    → AreRead content accounts book → (r : Result (Vec Row Global) Error)
    → IfOk r (λ rows. Shown (query_text records.table) [] old new rows.items)
    → IfOk r (λ rows. rows.items ≡ map records.shown (records.of_book version accounts book))
shows_own answers records is own version has old new content accounts book rests are (Err e) h = tt
shows_own answers records is own version has old new content accounts book rests are (Ok rows) h =
    own.rows version has content accounts book are old.now.trees
    (ap (λ (d : Database). tables_of_in version d.trees) rests.clean ∙ rests.holds.rows) rows.items
    (sorted records.table (asks_in records.table is version has) old new
    (ap (λ (d : Database). d.schema) rests.clean ∙ rests.schema) answers rows.items h)

-- of the rows of the table the query shows these, which rise by what it sorts by
pub shown_are : (q : Query) (stored rows : List Row) (goals : List Output)
    → IsAscending (λ a b. output_cmp q a b ≡ Less) goals
    → IsPermutation goals (map (λ r. output q ([] ∷ r ∷ [])) stored) → Sorts q [] stored rows
    → rows ≡ map (λ (o : Output). o.1) goals
shown_are q stored rows goals up same s = s.shown ∙ ap (map (λ (o : Output). o.1))
    (sorted_unique (output_cmp q) (output_cmp_total q) goals s.ordered up (IsPermutation-trans _ _ _ same s.same)
    s.sorted)

-- a table in the order of its row numbers
pub numbered : {A : Type 0} (t : Table) (row shown : A → Row) (id : A → ℤ)
    → ((a b : A) → int_cmp (id a) (id b) ≡ Less → output_cmp (whole_table t)
    (output (whole_table t) ([] ∷ row a ∷ [])) (output (whole_table t) ([] ∷ row b ∷ [])) ≡ Less)
    → ((a : A) → (output (whole_table t) ([] ∷ row a ∷ [])).1 ≡ shown a)
    → (all listed : List A) → IsAscending (λ a b. int_cmp (id a) (id b) ≡ Less) all → all ≡ listed
    → (stored rows : List Row) → stored ≡ map row all → Sorts (whole_table t) [] stored rows → rows ≡ map shown listed
numbered {A = A} t row shown id by shows all listed up same stored rows here s =
    let q = whole_table t in
    let out = λ (a : A). output q ([] ∷ row a ∷ []) in
    shown_are q stored rows (map out all)
    (ascending-map (λ (a b : Output). output_cmp q a b ≡ Less) out all (ascending_weaker _ _ by all up))
    (IsPermutation-same _ _ (sym (map-map (λ (r : Row). output q ([] ∷ r ∷ [])) row all)
    ∙ ap (map (λ (r : Row). output q ([] ∷ r ∷ []))) (sym here))) s
    ∙ map-map (λ (o : Output). o.1) out all ∙ map_same (λ (a : A). (out a).1) shown shows all ∙ ap (map shown) same
