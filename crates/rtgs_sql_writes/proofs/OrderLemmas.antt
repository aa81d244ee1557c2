-- What the statements on orders do.
use Rattle.std.proofs.Common.{◌≡◌, ◌⊎◌, inl, inr, ℕ, pos, ◌==◌, List, [], ◌∷◌, ◌++◌, map, filter, codes, true, false}
use Rattle.std.proofs.Common.{Ok, Err, Result, OnOk, eqb-true, refl, sym, ap, subst, ◌∙◌, arith}
use Rattle.std.specs.List.{AllByRecursion}
use Rattle.std.specs.List.Sorted.{IsPermutation}
use Rattle.std.specs.Ordering.{int_cmp}
use Rattle.std.specs.declared.cmp.Ordering.{Ordering}
use Rattle.std.specs.declared.cmp.Ordering.TheVariants.{Less, Equal}
use Rattle.sqlite.specs.declared.types.Value.{Value}
use Rattle.sqlite.specs.declared.types.Value.TheVariants.{Null, Int, Text}
use Rattle.sqlite.specs.declared.error.Error.{Error}
use Rattle.sqlite.specs.Order.{Row}
use Rattle.sqlite.specs.Term.{Term, lit, col, op2}
use Rattle.sqlite_sql.specs.Ops.{binary}
use Rattle.sqlite_sql.specs.declared.ops.BinaryOp.TheVariants.{Compare}
use Rattle.sqlite_sql.specs.declared.ops.CompareOp.TheVariants.{Eq}
use Rattle.sqlite.specs.Collation.TheVariants.{Binary}
use Rattle.sqlite.specs.Source.TheVariants.{Values}
use Rattle.sqlite.specs.Command.TheVariants.{Insert, Update}
use Rattle.sqlite.specs.Edit.{edit_of, edited}
use Rattle.sqlite_rules.specs.Calls.{ids_of}
use Rattle.sqlite.specs.Rowids.TheVariants.{Chosen, Given}
use Rattle.sqlite.specs.Rows.{stamped}
use Rattle.sqlite.specs.Tree.{Trees, put_row, IsAscending}
use Rattle.sqlite.specs.Listing.{understood}
use Rattle.sqlite.specs.Effect.{Database, value_rows}
use Rattle.sqlite.specs.State.{State, ExecutesInside}
use Rattle.sqlite.specs.Values.{bound_value}
use Rattle.sqlite.proofs.Callers.{one_permutation}
use Rattle.sqlite_tied.specs.Compute.{everything}
use Rattle.std.proofs.lemmas.Cmp.{int_cmp_total, tied_itself}
use Rattle.std.proofs.lemmas.Bool.{cases_Bool}
use Rattle.rtgs_sql_writes.specs.Staging.{with_order_row}
use Rattle.rtgs_sql_writes.proofs.Casts.{cast_null, cast_int, cast_mark, bound_mark}
use Rattle.rtgs_sql_columns.specs.OneTable.{simple, passes, shows, OneTableAnswers}
use Rattle.rtgs_sql_writes.proofs.Replacing.{Replaces, replaces}
use Rattle.rtgs_sql_writes.specs.Building.{with_rows}
use Rattle.rtgs_sql_writes.proofs.StateLemmas.{framed, stands_on}
use Rattle.rtgs_sql_writes.proofs.Adding.{adds}
use Rattle.rtgs_sql_writes.proofs.Writing.{IsUnderstoodAs, updated}
use Rattle.rtgs_sql_writes.proofs.Passing.{truth_of, same_number}
use Rattle.rtgs_book.specs.declared.order.Order.{Order}
use Rattle.rtgs_book.specs.declared.order_state.OrderState.{OrderState}
use Rattle.rtgs_book.specs.declared.change.RowChange.TheVariants.{AddOrder, SetState}
use Rattle.rtgs_book.specs.Settle.{restated}
use Rattle.rtgs_book.specs.Commands.{has_number}
use Rattle.rtgs_money.specs.Date.{date_text}
use Rattle.rtgs_rows.specs.Rows.{mark_value, state_number, order_row}
use Rattle.rtgs_rows.specs.Content.{rows_in, Content, IsUnderWay, IsInOrder, with_change}
use Rattle.rtgs_rows.specs.Tables.{schema_in, order_table as table}
use Rattle.rtgs_lists.proofs.Results.{none_moved}
use Rattle.rtgs_lists.proofs.Filters.{filter_of}

abbrev pub order_text : List ℕ
order_text = codes "INSERT INTO payment (number, sender, reference, receiver, amount, date, state, mark) "
    ++ codes "VALUES (?1, ?2, ?3, ?4, ?5, ?8, ?6, ?7)"

abbrev terms : List Term
terms = col 0 0 ∷ lit Null ∷ col 0 1 ∷ col 0 2 ∷ col 0 3 ∷ col 0 4 ∷ col 0 7 ∷ col 0 5 ∷ col 0 6 ∷ []

order_means : IsUnderstoodAs order_text (Insert 3 (Values terms 9))
unfolding understood everything schema_in
order_means = record { is = refl; plain = (refl, refl) }

abbrev params : Order → Row
params o = Int (pos o.number) ∷ Text o.sender ∷ Text o.reference ∷ Text o.receiver ∷ Int (pos o.amount)
    ∷ Int (pos (state_number o.state)) ∷ mark_value o.state ∷ Text (date_text o.date) ∷ []

edit : (trees : Trees) (o : Order) → edited trees (edit_of trees table [] Chosen 0
    (value_rows (stamped table (params o)) 9 1 terms)) ≡ put_row (order_row o) (trees table.tree)
edit trees o = rw (
  cast_int (pos o.number),
  cast_null,
  cast_int (pos o.amount),
  cast_int (pos (state_number o.state)),
  cast_mark o.state,
)

abbrev pub order_given : Order → Row
order_given o = Int (pos o.number) ∷ Text o.sender ∷ Text o.reference ∷ Text o.receiver ∷ Int (pos o.amount)
    ∷ Int (pos (state_number o.state)) ∷ bound_value (mark_value o.state) ∷ Text (date_text o.date) ∷ []

given_is : (o : Order) → order_given o ≡ params o
given_is o = ap (λ mark. Int (pos o.number) ∷ Text o.sender ∷ Text o.reference ∷ Text o.receiver ∷ Int (pos o.amount)
    ∷ Int (pos (state_number o.state)) ∷ mark ∷ Text (date_text o.date) ∷ []) (bound_mark o.state)

pub adds_order_row : (was : Database) (content : Content) (old new : State) (o : Order) (r : Result ℕ Error)
    (values : Row) → values ≡ order_given o → IsUnderWay was content old → IsInOrder (with_change content (AddOrder o))
    → ExecutesInside 0 order_text values old new r → OnOk r (IsUnderWay was (with_order_row content o) new)
adds_order_row was content old new o r values same stands order h =
    adds order_text 3 (omega arith) terms 9 order_row (λ q. pos q.number) (λ _. refl) order_means (params o) o
    (λ trees. edit trees o) was content (with_order_row content o) content.orders old new r stands
    (ap (rows_in table) stands.holds.rows) order.orders
    (ap (with_rows table (map order_row (content.orders ++ o ∷ []))) stands.holds.rows)
    (subst (λ all. ExecutesInside 0 order_text all old new r) (same ∙ given_is o) h)

-- ---- the state of one order

abbrev pub set_state_text : List ℕ
set_state_text = codes "UPDATE payment SET state = ?2, mark = ?3 WHERE number = ?1"

abbrev tests : List Term
tests = op2 (Compare Eq Binary) (col 1 0) (col 0 0) ∷ []

abbrev project : List Term
project = col 1 0 ∷ col 1 0 ∷ lit Null ∷ col 1 2 ∷ col 1 3 ∷ col 1 4 ∷ col 1 5 ∷ col 1 6 ∷ col 0 1 ∷ col 0 2 ∷ []

set_state_means : IsUnderstoodAs set_state_text
    (Update 3 (record { lets = []; body = simple table.tree tests project [] }))
unfolding understood everything schema_in
set_state_means = record { is = refl; plain = (refl, refl) }

passes_one : (number : ℕ) (state mark : Value) (o : Order) → passes tests (Int (pos number) ∷ state ∷ mark ∷ [])
    (order_row o) ≡ has_number number o
unfolding binary
passes_one number state mark o = truth_of _ ∙ same_number o.number number

apart : (number m n : ℕ) → int_cmp (pos m) (pos n) ≡ Less → (m == number) ≡ true → (n == number) ≡ false
apart number m n low here = elim (cases_Bool (n == number)) [
  | inl both ↦
      let same : m ≡ n = eqb-true m number here ∙ sym (eqb-true n number both) in
      let tied : int_cmp (pos m) (pos n) ≡ Equal = subst (λ k. int_cmp (pos m) (pos k) ≡ Equal) same
      (tied_itself int_cmp_total (pos m)) in
      absurd (let clash : ◌≡◌ {A = Ordering} Less Equal = sym low ∙ tied in cc)
  | inr other ↦ other
]

apart_all : (number : ℕ) (o : Order) (all : List Order) → AllByRecursion
    (λ b. int_cmp (pos o.number) (pos b.number) ≡ Less) all → AllByRecursion
    (λ b. has_number number o ≡ true → has_number number b ≡ false) all
apart_all number o [] low = tt
apart_all number o (b ∷ all) low = (apart number o.number b.number low.0, apart_all number o all low.1)

pub differ : (number : ℕ) (all : List Order) → IsAscending (λ (a b : Order). int_cmp (pos a.number) (pos b.number) ≡
    Less)
    all → IsAscending (λ a b. has_number number a ≡ true → has_number number b ≡ false) all
differ number [] rise = tt
differ number (o ∷ all) rise = (apart_all number o all rise.0, differ number all rise.1)

abbrev set_to : OrderState → Order → Order
set_to state o = record o { state = state }

module _ (number : ℕ) (state : OrderState) where
  abbrev state_params : Row
  state_params = Int (pos number) ∷ Int (pos (state_number state)) ∷ mark_value state ∷ []

  abbrev IsOne : List Order → Type 0
  IsOne = Replaces order_row (λ o. pos o.number) (λ _. refl) (has_number number) (set_to state) (λ _. refl)

  state_edit : (trees : Trees) (all : List Order) (rows : List Row) → trees table.tree ≡ map order_row all
      → ((filter (has_number number) all ≡ []) × (map order_row (map (restated (has_number number) state) all)
      ≡ map order_row all)) ⊎ IsOne all
      → IsPermutation (map (shows project state_params) (map order_row (filter (has_number number) all))) rows
      → edited trees (edit_of trees table (ids_of rows) Given 1 rows)
      ≡ map order_row (map (restated (has_number number) state) all)
  state_edit trees all rows are (inl none) same =
      let empty : rows ≡ [] = none_moved _ rows (rw none.0) same in
      rw (empty, are, none.1)
  state_edit trees all rows are (inr it) same =
      let one : rows ≡ shows project state_params (order_row it.one) ∷ [] =
      one_permutation _ rows (rw it.passed at same) in
      rw (
        one,
        cast_int (pos it.one.number),
        cast_null,
        cast_int (pos it.one.amount),
        cast_int
            (pos (state_number state)),
        cast_mark state,
        are,
      ) it.put

  abbrev pub state_given : Row
  state_given = Int (pos number) ∷ Int (pos (state_number state)) ∷ bound_value (mark_value state) ∷ []

  pub sets_state : OneTableAnswers → (was : Database) (content : Content) (old new : State) (r : Result ℕ Error)
      (values : Row)
      → values ≡ state_given → IsUnderWay was content old → IsInOrder content
      → ExecutesInside 0 set_state_text values old new r → OnOk r
      (IsUnderWay was (with_change content (SetState number state)) new)
  sets_state answers was content old new (Err e) values same stands order h = tt
  sets_state answers was content old new (Ok count) values same stands order given =
      let h = subst (λ all. ExecutesInside 0 set_state_text all old new (Ok count)) (same ∙ ap (λ mark. Int (pos
      number) ∷ Int (pos (state_number state)) ∷ mark ∷ []) (bound_mark state)) given in
      let all = content.orders in
      let made = updated set_state_text 3 (omega arith) old new state_params count stands.schema h.0 answers table.tree
      tests project set_state_means in
      let here : old.now.trees table.tree ≡ map order_row all = ap (rows_in table) stands.holds.rows in
      let passed : filter (passes tests state_params) (old.now.trees table.tree)
      ≡ map order_row (filter (has_number number) all) =
      rw here (filter_of order_row _ (has_number number) (passes_one number (Int (pos (state_number state)))
      (mark_value state)) all) in
      let found = replaces order_row (λ o. pos o.number) (λ _. refl) (has_number number) (set_to state) (λ _. refl)
      all order.orders (differ number all order.orders) in
      let rows : new.now.trees table.tree ≡ map order_row (map (restated (has_number number) state) all) =
      made.2.rows ∙ state_edit old.now.trees all made.0 here found
      (subst (λ f. IsPermutation (map (shows project state_params) f) made.0) passed made.1) in
      stands_on was old new content (with_change content (SetState number state)) stands h.1 made.2.schema made.2.sound
      (framed table.tree old.now.trees new.now.trees _ rows made.2.frame
      ∙ ap (with_rows table (map order_row (map (restated (has_number number) state) all)))
      stands.holds.rows)
