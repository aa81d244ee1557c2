-- What the UPDATE of an order does that enters its queue.
use Rattle.std.proofs.Common.{◌≡◌, ◌⊎◌, inl, inr, ℕ, pos, ◌==◌, ◌&&◌, List, [], ◌∷◌, map, filter, codes, Bool, true}
use Rattle.std.proofs.Common.{false, Ok, Err, Result, OnOk, refl, ap, subst, ◌∙◌, arith}
use Rattle.std.specs.List.{AllByRecursion}
use Rattle.std.specs.List.Sorted.{IsPermutation}
use Rattle.std.specs.Ordering.{int_cmp, is_eq}
use Rattle.std.specs.declared.cmp.Ordering.TheVariants.{Less}
use Rattle.sqlite.specs.declared.types.Value.TheVariants.{Null, Int, Text}
use Rattle.sqlite.specs.declared.error.Error.{Error}
use Rattle.sqlite.specs.Order.{Row, value_cmp}
use Rattle.sqlite.specs.Term.{Term, lit, col, op2}
use Rattle.sqlite_sql.specs.Ops.{binary}
use Rattle.sqlite_sql.specs.declared.ops.BinaryOp.TheVariants.{Compare}
use Rattle.sqlite_sql.specs.declared.ops.CompareOp.TheVariants.{Eq}
use Rattle.sqlite.specs.Collation.TheVariants.{Binary}
use Rattle.sqlite.specs.Command.TheVariants.{Update}
use Rattle.sqlite.specs.Edit.{edit_of, edited}
use Rattle.sqlite_rules.specs.Calls.{ids_of}
use Rattle.sqlite.specs.Rowids.TheVariants.{Given}
use Rattle.sqlite.specs.Tree.{Trees, IsAscending}
use Rattle.sqlite.specs.Listing.{understood}
use Rattle.sqlite.specs.Effect.{Database}
use Rattle.sqlite.specs.State.{State, ExecutesInside}
use Rattle.sqlite.proofs.Callers.{one_permutation}
use Rattle.sqlite_tied.specs.Compute.{everything}
use Rattle.sqlite_keyed.proofs.ListLemmas.{ascending_weaker}
use Rattle.std.proofs.lemmas.Bool.{cases_Bool, and_parts}
use Rattle.rtgs_sql_columns.specs.OneTable.{simple, passes, shows, OneTableAnswers}
use Rattle.rtgs_sql_writes.proofs.Casts.{cast_null, cast_int}
use Rattle.rtgs_sql_writes.proofs.OrderLemmas.{differ}
use Rattle.rtgs_sql_writes.proofs.Replacing.{Replaces, replaces}
use Rattle.rtgs_sql_writes.specs.Building.{with_rows}
use Rattle.rtgs_sql_writes.proofs.StateLemmas.{framed, stands_on}
use Rattle.rtgs_sql_writes.proofs.Writing.{IsUnderstoodAs, updated}
use Rattle.rtgs_sql_writes.proofs.Passing.{two_truths, same_number}
use Rattle.rtgs_book.specs.declared.order.Order.{Order}
use Rattle.rtgs_book.specs.declared.order_state.OrderState.{OrderState}
use Rattle.rtgs_book.specs.declared.order_state.OrderState.TheVariants.{Queued, Held, Settled, Withdrawn, Rejected}
use Rattle.rtgs_book.specs.declared.change.RowChange.TheVariants.{EnterQueue}
use Rattle.rtgs_book.specs.Books.{is_held, is_held_state}
use Rattle.rtgs_book.specs.Settle.{altered}
use Rattle.rtgs_book.specs.Commands.{has_number, is_held_with, entered}
use Rattle.rtgs_money.specs.Date.{date_text}
use Rattle.rtgs_rows.specs.Rows.{mark_value, state_number, order_row}
use Rattle.rtgs_rows.specs.Content.{rows_in, Content, IsUnderWay, IsInOrder, with_change}
use Rattle.rtgs_rows.specs.Tables.{schema_in, order_table as table}
use Rattle.rtgs_lists.proofs.Bools.{and_right_false}
use Rattle.rtgs_lists.proofs.Results.{none_moved}
use Rattle.rtgs_lists.proofs.Filters.{filter_of}

abbrev pub enter_text : List ℕ
enter_text = codes "UPDATE payment SET state = ?2, date = ?3 WHERE number = ?1 AND state = ?4"

abbrev tests : List Term
tests = op2 (Compare Eq Binary) (col 1 0) (col 0 0) ∷ op2 (Compare Eq Binary) (col 1 7) (col 0 3) ∷ []

abbrev project : List Term
project = col 1 0 ∷ col 1 0 ∷ lit Null ∷ col 1 2 ∷ col 1 3 ∷ col 1 4 ∷ col 1 5 ∷ col 0 2 ∷ col 0 1 ∷ col 1 8 ∷ []

enter_means : IsUnderstoodAs enter_text (Update 3 (record { lets = []; body = simple table.tree tests project [] }))
unfolding understood everything schema_in
enter_means = record { is = refl; plain = (refl, refl) }

-- ---- a held order, by its row

held_number : (state : OrderState) → (state_number state == state_number Held) ≡ is_held_state state
held_number Queued = refl
held_number Held = refl
held_number (Settled mark) = refl
held_number Withdrawn = refl
held_number Rejected = refl

unmarked : (state : OrderState) → is_held_state state ≡ true → mark_value state ≡ Null
unmarked Queued held = refl
unmarked Held held = refl
unmarked (Settled mark) held = absurd cc
unmarked Withdrawn held = refl
unmarked Rejected held = refl

swapped : (a b : Bool) → (a && b) ≡ (b && a)
swapped true true = refl
swapped true false = refl
swapped false true = refl
swapped false false = refl

-- those that pass a test do
each_passes : {A : Type 0} (p : A → Bool) (xs : List A) → AllByRecursion (λ x. p x ≡ true) (filter p xs)
each_passes p [] = tt
each_passes p (x ∷ xs) = elim (cases_Bool (p x)) [
  | inl hit ↦ rw hit (hit, each_passes p xs)
  | inr miss ↦ rw miss (each_passes p xs)
]

-- one order at most has the number
apart : (number : ℕ) (all : List Order)
    → IsAscending (λ (a b : Order). int_cmp (pos a.number) (pos b.number) ≡ Less) all
    → IsAscending (λ a b. is_held_with number a ≡ true → is_held_with number b ≡ false) all
apart number all rise =
    ascending_weaker (λ a b. has_number number a ≡ true → has_number number b ≡ false)
    (λ a b. is_held_with number a ≡ true → is_held_with number b ≡ false)
    (λ a b one held. and_right_false (is_held b) (has_number number b)
    (one (and_parts (is_held a) (has_number number a) held).1))
    all (differ number all rise)

-- ---- what the statement does

module _ (number date : ℕ) where
  abbrev pub enter_given : Row
  enter_given = Int (pos number) ∷ Int (pos (state_number Queued)) ∷ Text (date_text date)
      ∷ Int (pos (state_number Held)) ∷ []

  abbrev hit : Order → Bool
  hit = is_held_with number

  passes_held : (o : Order) → passes tests enter_given (order_row o) ≡ hit o
  unfolding binary
  passes_held o =
      two_truths (is_eq (value_cmp (Int (pos o.number)) (Int (pos number))))
      (is_eq (value_cmp (Int (pos (state_number o.state))) (Int (pos (state_number Held)))))
      ∙ ap (λ b. b && is_eq (value_cmp (Int (pos (state_number o.state))) (Int (pos (state_number Held)))))
      (same_number o.number number)
      ∙ ap (λ b. has_number number o && b) (same_number (state_number o.state) (state_number Held)
      ∙ held_number o.state) ∙ swapped (has_number number o) (is_held o)

  abbrev entering : List Order → List Order
  entering = map (altered hit (entered date))

  abbrev IsOne : List Order → Type 0
  IsOne = Replaces order_row (λ o. pos o.number) (λ _. refl) hit (entered date) (λ _. refl)

  enter_edit : (trees : Trees) (all : List Order) (rows : List Row) → trees table.tree ≡ map order_row all
      → ((filter hit all ≡ []) × (map order_row (entering all) ≡ map order_row all)) ⊎ IsOne all
      → IsPermutation (map (shows project enter_given) (map order_row (filter hit all))) rows
      → edited trees (edit_of trees table (ids_of rows) Given 1 rows) ≡ map order_row (entering all)
  enter_edit trees all rows are (inl none) same =
      let empty : rows ≡ [] = none_moved _ rows (rw none.0) same in
      rw (empty, are, none.1)
  enter_edit trees all rows are (inr it) same =
      let one : rows ≡ shows project enter_given (order_row it.one) ∷ [] =
      one_permutation _ rows (rw it.passed at same) in
      let found : hit it.one ≡ true = (subst (AllByRecursion (λ o. hit o ≡ true)) it.passed (each_passes hit all)).0 in
      let none : mark_value it.one.state ≡ Null = unmarked it.one.state
      (and_parts (is_held it.one) (has_number number it.one) found).0 in
      rw (
        one,
        none,
        cast_int (pos it.one.number),
        cast_null,
        cast_int (pos it.one.amount),
        cast_int (pos (state_number Queued)),
        are,
      ) it.put

  pub enters : OneTableAnswers → (was : Database) (content : Content) (old new : State) (r : Result ℕ Error)
      (values : Row) → values ≡ enter_given → IsUnderWay was content old → IsInOrder content
      → ExecutesInside 0 enter_text values old new r → OnOk r
      (IsUnderWay was (with_change content (EnterQueue number date)) new)
  enters answers was content old new (Err e) values same stands order h = tt
  enters answers was content old new (Ok count) values same stands order given =
      let h = subst (λ all. ExecutesInside 0 enter_text all old new (Ok count)) same given in
      let all = content.orders in
      let made = updated enter_text 3 (omega arith) old new enter_given count stands.schema h.0 answers table.tree
      tests project enter_means in
      let here : old.now.trees table.tree ≡ map order_row all = ap (rows_in table) stands.holds.rows in
      let passed : filter (passes tests enter_given) (old.now.trees table.tree) ≡ map order_row (filter hit all) =
      rw here (filter_of order_row _ hit passes_held all) in
      let found = replaces order_row (λ o. pos o.number) (λ _. refl) hit (entered date) (λ _. refl) all order.orders
      (apart number all order.orders) in
      let rows : new.now.trees table.tree ≡ map order_row (entering all) =
      made.2.rows ∙ enter_edit old.now.trees all made.0 here found
      (subst (λ f. IsPermutation (map (shows project enter_given) f) made.0) passed made.1) in
      stands_on was old new content (with_change content (EnterQueue number date)) stands h.1 made.2.schema
      made.2.sound (framed table.tree old.now.trees new.now.trees _ rows made.2.frame
      ∙ ap (with_rows table (map order_row (entering all))) stands.holds.rows)
