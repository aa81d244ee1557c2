-- What the statements on participants do.
use Rattle.std.proofs.Common.{◌≡◌, ◌≢◌, ◌⊎◌, inl, inr, ℕ, ℤ, pos, List, [], ◌∷◌, ◌++◌, map, filter, codes, Bool, true}
use Rattle.std.proofs.Common.{false, Ok, Err, Result, OnOk, refl, sym, ap, subst, ◌∙◌, arith}
use Rattle.std.specs.List.{AllByRecursion}
use Rattle.std.specs.List.Sorted.{IsPermutation}
use Rattle.sqlite.specs.declared.types.Value.{Value}
use Rattle.sqlite.specs.declared.types.Value.TheVariants.{Null, Int, Text, Blob}
use Rattle.sqlite.specs.declared.error.Error.{Error}
use Rattle.sqlite.specs.Order.{Row}
use Rattle.sqlite.specs.Term.{Term, lit, col, op2}
use Rattle.sqlite_sql.specs.Ops.{binary}
use Rattle.sqlite_sql.specs.declared.ops.BinaryOp.TheVariants.{Compare}
use Rattle.sqlite_sql.specs.declared.ops.CompareOp.TheVariants.{Eq}
use Rattle.sqlite.specs.Collation.TheVariants.{Binary}
use Rattle.sqlite.specs.Source.TheVariants.{Values}
use Rattle.sqlite.specs.Command.TheVariants.{Insert, Update}
use Rattle.sqlite.specs.Edit.{edit_of, edited, next_rowid}
use Rattle.sqlite_rules.specs.Calls.{ids_of}
use Rattle.sqlite.specs.Rowids.TheVariants.{Chosen, Given}
use Rattle.sqlite.specs.Rows.{stamped}
use Rattle.sqlite.specs.Tree.{Trees, put_row, IsAscending}
use Rattle.sqlite.specs.Listing.{understood}
use Rattle.sqlite.specs.Effect.{Database, value_rows}
use Rattle.sqlite.specs.State.{State, ExecutesInside}
use Rattle.sqlite.proofs.Callers.{one_permutation}
use Rattle.sqlite_tied.specs.Compute.{everything}
use Rattle.std.proofs.lemmas.Bool.{cases_Bool}
use Rattle.std.specs.Str.{bytes_eq}
use Rattle.std.proofs.lemmas.Slice.Eq.{bytes_eq-Decides}
use Rattle.rtgs_sql_writes.proofs.Casts.{cast_null, cast_int}
use Rattle.rtgs_sql_writes.proofs.Lists.{put_last}
use Rattle.rtgs_rows.specs.RowLaws.{NextRowIsAbove}
use Rattle.rtgs_sql_columns.specs.OneTable.{simple, passes, shows, OneTableAnswers}
use Rattle.rtgs_sql_writes.proofs.Replacing.{Replaces, replaces}
use Rattle.rtgs_sql_writes.specs.Building.{with_rows}
use Rattle.rtgs_sql_writes.proofs.StateLemmas.{framed, stands_on}
use Rattle.rtgs_sql_writes.proofs.Writing.{IsUnderstoodAs, inserted, updated}
use Rattle.rtgs_sql_writes.proofs.Passing.{truth_of, same_text}
use Rattle.rtgs_book.specs.declared.participant.Participant.{Participant}
use Rattle.rtgs_book.specs.declared.change.RowChange.TheVariants.{AddParticipant, SetCredit, SetBalance}
use Rattle.rtgs_rows.specs.Rows.{participant_row}
use Rattle.rtgs_rows.specs.Content.{rows_in, Holding, Content, holding_row, IsUnderWay, IsInOrder, with_change}
use Rattle.rtgs_rows.specs.Content.{with_credit_in, with_balance_in, newcomer}
use Rattle.rtgs_rows.specs.Tables.{schema_in, participant_table as table}
use Rattle.rtgs_lists.proofs.Results.{none_moved}
use Rattle.rtgs_lists.proofs.Filters.{filter_of}

abbrev pub participant_text : List ℕ
participant_text = codes "INSERT INTO participant (code, name, key, credit, balance) VALUES (?1, ?2, ?3, ?4, 0)"

abbrev terms : List Term
terms = lit Null ∷ col 0 0 ∷ col 0 1 ∷ col 0 2 ∷ col 0 3 ∷ lit (Int (pos 0)) ∷ []

participant_means : IsUnderstoodAs participant_text (Insert 1 (Values terms 6))
unfolding understood everything schema_in
participant_means = record { is = refl; plain = (refl, refl) }

abbrev pub participant_given : Participant → Row
participant_given p = Text p.code ∷ Text p.name ∷ Blob p.key ∷ Int (pos p.credit) ∷ []

edit : (trees : Trees) (p : Participant) → edited trees (edit_of trees table [] Chosen 0
    (value_rows (stamped table (participant_given p)) 6 1 terms))
    ≡ put_row (participant_row (next_rowid (trees table.tree)) p (pos 0)) (trees table.tree)
edit trees p = rw (cast_null, cast_int (pos p.credit), cast_int (pos 0))

pub adds_participant : NextRowIsAbove → (was : Database) (content : Content) (old new : State) (p : Participant)
    (r : Result ℕ Error) (values : Row) → values ≡ participant_given p → IsUnderWay was content old → IsInOrder content
    → ExecutesInside 0 participant_text values old new r → OnOk r
    (IsUnderWay was (with_change content (AddParticipant p)) new)
adds_participant above was content old new p (Err e) values same stands order h = tt
adds_participant above was content old new p (Ok count) values same stands order given =
    let h = subst (λ all. ExecutesInside 0 participant_text all old new (Ok count)) same given in
    let made = inserted participant_text 1 (omega arith) old new (participant_given p) count stands.schema h.0 terms 6
    participant_means in
    let here : old.now.trees table.tree ≡ map holding_row content.holdings =
    ap (rows_in table) stands.holds.rows in
    let fresh = newcomer content p in
    let rows : new.now.trees table.tree ≡ map holding_row (content.holdings ++ fresh ∷ []) =
    made.rows ∙ edit old.now.trees p ∙ ap (λ rows. put_row (participant_row (next_rowid rows) p (pos 0)) rows) here
    ∙ put_last holding_row (λ q. q.id) (λ _. refl) fresh content.holdings (above content.holdings order.ids) in
    stands_on was old new content (with_change content (AddParticipant p)) stands h.1 made.schema made.sound
    (framed table.tree old.now.trees new.now.trees _ rows made.frame
    ∙ ap (with_rows table (map holding_row (content.holdings ++ fresh ∷ [])))
    stands.holds.rows)

-- ---- what a code names

abbrev has : List ℕ → Holding → Bool
has code h = bytes_eq h.participant.code code

code_is : (code : List ℕ) (h : Holding) → has code h ≡ true → h.participant.code ≡ code
code_is code h hit = (bytes_eq-Decides h.participant.code code).0 hit

apart : (code : List ℕ) (x : Holding) (xs : List Holding) → AllByRecursion
    (λ y. x.participant.code ≢ y.participant.code) xs → AllByRecursion (λ y. has code x ≡ true → has code y ≡ false) xs
apart code x [] differ = tt
apart code x (y ∷ ys) differ = (
  λ hit. elim (cases_Bool (has code y)) [
    | inl both ↦ absurd (differ.0 (code_is code x hit ∙ sym (code_is code y both)))
    | inr miss ↦ miss
  ],
  apart code x ys differ.1,
)

differ : (code : List ℕ) (all : List Holding) → IsAscending (λ a b. a.participant.code ≢ b.participant.code) all
    → IsAscending (λ a b. has code a ≡ true → has code b ≡ false) all
differ code [] codes = tt
differ code (x ∷ xs) codes = (apart code x xs codes.0, differ code xs codes.1)

abbrev tests : List Term
tests = op2 (Compare Eq Binary) (col 1 1) (col 0 0) ∷ []

passes_one : (code : List ℕ) (value : Value) (h : Holding) → passes tests (Text code ∷ value ∷ []) (holding_row h)
    ≡ has code h
unfolding binary
passes_one code value h = truth_of _ ∙ same_text h.participant.code code

-- ---- the stored balance

abbrev pub balance_text : List ℕ
balance_text = codes "UPDATE participant SET balance = ?2 WHERE code = ?1"

abbrev balance_project : List Term
balance_project = col 1 0 ∷ col 1 0 ∷ col 1 1 ∷ col 1 2 ∷ col 1 3 ∷ col 1 4 ∷ col 0 1 ∷ []

balance_means : IsUnderstoodAs balance_text
    (Update 1 (record { lets = []; body = simple table.tree tests balance_project [] }))
unfolding understood everything schema_in
balance_means = record { is = refl; plain = (refl, refl) }

abbrev balance_set : ℤ → Holding → Holding
balance_set balance h = record h { balance = balance }

module _ (code : List ℕ) (balance : ℤ) where
  abbrev pub balance_given : Row
  balance_given = Text code ∷ Int balance ∷ []

  balance_edit : (trees : Trees) (all : List Holding) (rows : List Row) → trees table.tree ≡ map holding_row all
      → ((filter (has code) all ≡ []) × (map holding_row (map (with_balance_in code balance) all)
      ≡ map holding_row all)) ⊎ Replaces holding_row (λ h. h.id) (λ _. refl) (has code) (balance_set balance)
      (λ _. refl) all
      → IsPermutation (map (shows balance_project balance_given) (map holding_row (filter (has code) all))) rows
      → edited trees (edit_of trees table (ids_of rows) Given 1 rows)
      ≡ map holding_row (map (with_balance_in code balance) all)
  balance_edit trees all rows are (inl none) same =
      let empty : rows ≡ [] = none_moved _ rows (rw none.0) same in
      rw (empty, are, none.1)
  balance_edit trees all rows are (inr it) same =
      let one : rows ≡ shows balance_project balance_given (holding_row it.one) ∷ [] =
      one_permutation _ rows (rw it.passed at same) in
      rw (one, cast_int it.one.id, cast_int (pos it.one.participant.credit), cast_int balance, are) it.put

  pub sets_balance : OneTableAnswers → (was : Database) (content : Content) (old new : State) (r : Result ℕ Error)
      (values : Row)
      → values ≡ balance_given → IsUnderWay was content old → IsInOrder content
      → ExecutesInside 0 balance_text values old new r → OnOk r
      (IsUnderWay was (with_change content (SetBalance code balance)) new)
  sets_balance answers was content old new (Err e) values same stands order h = tt
  sets_balance answers was content old new (Ok count) values same stands order given =
      let h = subst (λ all. ExecutesInside 0 balance_text all old new (Ok count)) same given in
      let all = content.holdings in
      let made = updated balance_text 1 (omega arith) old new balance_given count stands.schema h.0 answers table.tree
      tests balance_project balance_means in
      let here : old.now.trees table.tree ≡ map holding_row all =
      ap (rows_in table) stands.holds.rows in
      let passed : filter (passes tests balance_given) (old.now.trees table.tree)
      ≡ map holding_row (filter (has code) all) = rw here
      (filter_of holding_row _ (has code) (passes_one code (Int balance)) all) in
      let found = replaces holding_row (λ h. h.id) (λ _. refl) (has code) (balance_set balance) (λ _. refl) all
      order.ids (differ code all order.codes) in
      let rows : new.now.trees table.tree ≡ map holding_row (map (with_balance_in code balance) all) =
      made.2.rows ∙ balance_edit old.now.trees all made.0 here found
      (subst (λ f. IsPermutation (map (shows balance_project balance_given) f) made.0) passed made.1) in
      stands_on was old new content (with_change content (SetBalance code balance)) stands h.1 made.2.schema
      made.2.sound
      (framed table.tree old.now.trees new.now.trees _ rows made.2.frame
      ∙ ap (with_rows table (map holding_row (map (with_balance_in code balance) all)))
      stands.holds.rows)

-- ---- the credit limit

abbrev pub credit_text : List ℕ
credit_text = codes "UPDATE participant SET credit = ?2 WHERE code = ?1"

abbrev credit_project : List Term
credit_project = col 1 0 ∷ col 1 0 ∷ col 1 1 ∷ col 1 2 ∷ col 1 3 ∷ col 0 1 ∷ col 1 5 ∷ []

credit_means : IsUnderstoodAs credit_text (Update 1
    (record { lets = []; body = simple table.tree tests credit_project [] }))
unfolding understood everything schema_in
credit_means = record { is = refl; plain = (refl, refl) }

abbrev credit_set : ℕ → Holding → Holding
credit_set credit h = record h { participant = record h.participant { credit = credit } }

module _ (code : List ℕ) (credit : ℕ) where
  abbrev pub credit_given : Row
  credit_given = Text code ∷ Int (pos credit) ∷ []

  credit_edit : (trees : Trees) (all : List Holding) (rows : List Row) → trees table.tree ≡ map holding_row all
      → ((filter (has code) all ≡ []) × (map holding_row (map (with_credit_in code credit) all) ≡ map holding_row all))
      ⊎ Replaces holding_row (λ h. h.id) (λ _. refl) (has code) (credit_set credit) (λ _. refl) all
      → IsPermutation (map (shows credit_project credit_given) (map holding_row (filter (has code) all))) rows
      → edited trees (edit_of trees table (ids_of rows) Given 1 rows)
      ≡ map holding_row (map (with_credit_in code credit) all)
  credit_edit trees all rows are (inl none) same =
      let empty : rows ≡ [] = none_moved _ rows (rw none.0) same in
      rw (empty, are, none.1)
  credit_edit trees all rows are (inr it) same =
      let one : rows ≡ shows credit_project credit_given (holding_row it.one) ∷ [] =
      one_permutation _ rows (rw it.passed at same) in
      rw (one, cast_int it.one.id, cast_int (pos credit), cast_int it.one.balance, are) it.put

  pub sets_credit : OneTableAnswers → (was : Database) (content : Content) (old new : State) (r : Result ℕ Error)
      (values : Row)
      → values ≡ credit_given → IsUnderWay was content old → IsInOrder content
      → ExecutesInside 0 credit_text values old new r → OnOk r
      (IsUnderWay was (with_change content (SetCredit code credit)) new)
  sets_credit answers was content old new (Err e) values same stands order h = tt
  sets_credit answers was content old new (Ok count) values same stands order given =
      let h = subst (λ all. ExecutesInside 0 credit_text all old new (Ok count)) same given in
      let all = content.holdings in
      let made = updated credit_text 1 (omega arith) old new credit_given count stands.schema h.0 answers table.tree
      tests credit_project credit_means in
      let here : old.now.trees table.tree ≡ map holding_row all =
      ap (rows_in table) stands.holds.rows in
      let passed : filter (passes tests credit_given) (old.now.trees table.tree)
      ≡ map holding_row (filter (has code) all) = rw here
      (filter_of holding_row _ (has code) (passes_one code (Int (pos credit))) all) in
      let found = replaces holding_row (λ h. h.id) (λ _. refl) (has code) (credit_set credit) (λ _. refl) all order.ids
      (differ code all order.codes) in
      let rows : new.now.trees table.tree ≡ map holding_row (map (with_credit_in code credit) all) =
      made.2.rows ∙ credit_edit old.now.trees all made.0 here found
      (subst (λ f. IsPermutation (map (shows credit_project credit_given) f) made.0) passed made.1) in
      stands_on was old new content (with_change content (SetCredit code credit)) stands h.1 made.2.schema made.2.sound
      (framed table.tree old.now.trees new.now.trees _ rows made.2.frame
      ∙ ap (with_rows table (map holding_row (map (with_credit_in code credit) all)))
      stands.holds.rows)
