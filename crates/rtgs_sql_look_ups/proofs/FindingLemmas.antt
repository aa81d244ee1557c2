-- The rows that a query of one table shows, where it tests by a parameter.
use Rattle.std.proofs.Common.{◌≡◌, ◌≢◌, ◌⊎◌, inl, inr, ℕ, ℤ, pos, List, [], ◌∷◌, map, filter, take, Bool, true, false}
use Rattle.std.proofs.Common.{◌&&◌, ◌==◌, nat_lt, Option, Some, None, Ok, Err, Result, IsTrue, IfOk, IfErr, Vec, Global}
use Rattle.std.proofs.Common.{◌<ℤ◌, refl, sym, ap, subst, ◌∙◌, arith}
use Rattle.std.specs.List.{AllByRecursion, find, IsDistinct}
use Rattle.std.specs.List.Sorted.{IsPermutation}
use Rattle.std.specs.Option.{option_map}
use Rattle.std.specs.Str.{bytes_eq}
use Rattle.std.specs.Cmp.{int_ranks}
use Rattle.std.specs.Ordering.{int_cmp, is_eq, is_gt, MatchOrdering}
use Rattle.std.specs.declared.cmp.Ordering.{Ordering}
use Rattle.std.specs.declared.cmp.Ordering.TheVariants.{Less, Equal, Greater}
use Rattle.std.proofs.lemmas.Bool.{cases_Bool, ltb-true, lt-ltb, and_parts}
use Rattle.std.proofs.lemmas.Int.{ints}
use Rattle.std.proofs.lemmas.Slice.Eq.{bytes_eq-Decides}
use Rattle.sqlite_value.proofs.OrderLemmas.{value_cmp-Int}
use Rattle.sqlite.specs.declared.types.Value.TheVariants.{Int, Text}
use Rattle.sqlite.specs.declared.error.Error.{Error}
use Rattle.sqlite.specs.Order.{Row, value_cmp}
use Rattle.sqlite.specs.Term.{Term}
use Rattle.sqlite.specs.Query.{Query, IsAnswer, output, Output}
use Rattle.sqlite_sql.specs.Query.{output_cmp}
use Rattle.sqlite_sql.specs.Ops.{binary, is_true, from_truth}
use Rattle.sqlite_sql.specs.Program.{overlay}
use Rattle.sqlite_sql.proofs.QueryLemmas.{output_cmp_total}
use Rattle.sqlite_keyed.proofs.SortLemmas.{sorted_unique}
use Rattle.sqlite_keyed.proofs.ListLemmas.{ascending-map, ascending-filter, ascending_weaker, map-map, map_same}
use Rattle.sqlite.specs.Table.{Table}
use Rattle.sqlite.specs.Tree.{Trees, IsAscending}
use Rattle.sqlite.specs.Effect.{Database}
use Rattle.sqlite.specs.State.{State, HasCleanDisk, Survives}
use Rattle.sqlite.specs.Held.{Held, state}
use Rattle.sqlite.proofs.Callers.{one_permutation}
use Rattle.sqlite.proofs.StateLemmas.{survives_then}
use Rattle.sqlite_trees.specs.declared.store.Store.{Ghosts}
use Rattle.rtgs_money.specs.Date.{date_text}
use Rattle.rtgs_book.specs.declared.book.Book.{Book}
use Rattle.rtgs_book.specs.declared.fault.Fault.{Fault}
use Rattle.rtgs_book.specs.declared.fault.Fault.TheVariants.{OutOfMemory, StoreFault}
use Rattle.rtgs_book.specs.declared.posting.Posting.{Posting}
use Rattle.rtgs_book.specs.declared.order.Order.{Order}
use Rattle.rtgs_book.specs.declared.mark.Mark.{Mark}
use Rattle.rtgs_rows.specs.declared.forward.Forward.{Forward}
use Rattle.rtgs_book.specs.Lookup.{is_order_named, is_posting_named, order_named, posting_named}
use Rattle.rtgs_book.specs.Soundness.{is_same_name}
use Rattle.rtgs_rows.specs.Content.{Content, Rests, rows_in}
use Rattle.rtgs_rows.specs.Keeping.{IsBookOf, HoldsBook}
use Rattle.rtgs_rows.specs.Rows.{posting_row, order_row, mark_row, forward_row, shown_posting, shown_order}
use Rattle.rtgs_sql_columns.specs.OneTable.{simple, passes, shows, OneTableAnswers}
use Rattle.rtgs_sql_queries.specs.Answering.{IsQuery, KeepsTables}
use Rattle.rtgs_sql_look_ups.specs.Finding.{one_of, IsLook, first_query, after_tests, order_after_tests, under_tests}
use Rattle.rtgs_sql_look_ups.proofs.Passing.{truth_of, same_number, same_text}
use Rattle.rtgs_sql_look_ups.proofs.FindingTexts.{order_tests, posting_tests, order_query, posting_query}
use Rattle.rtgs_sql_queries.specs.TableQueries.{columns_of}
use Rattle.rtgs_rows.specs.Tables.{posting_table, order_table}
use Rattle.rtgs_rows.specs.declared.numbers.TheConstants.{VERSION}
use Rattle.rtgs_lists.proofs.Results.{none_moved}
use Rattle.rtgs_lists.proofs.Filters.{filter_of, filter_agrees, map-filter}

-- ---- what is made of the rows

survives_on : (a b c : State) → Survives a b (λ _. ⊥) → Survives b c (λ _. ⊥) → Survives a c (λ _. ⊥)
survives_on a b c = survives_then a b c (λ _. ⊥) (λ _. ⊥) (λ _. ⊥) (λ _ db none. none) (λ _ db none. none)

keeps_then : (old mid new : State) → KeepsTables old mid → KeepsTables mid new
    → KeepsTables old new
keeps_then old mid new one two = record {
  file = λ version trees file. two.file version trees (one.file version trees file);
  rests = λ version content rests. two.rests version content (one.rests version content rests);
}

only_store : {A : Type 0} (r : Result A Fault) → IfErr r (λ fault. fault ≡ StoreFault)
    → IfErr r (λ fault. (fault ≡ OutOfMemory) ⊎ (fault ≡ StoreFault))
only_store (Ok a) h = tt
only_store (Err e) h = inr h

pub looks_ok : {S A : Type 0} (g : Ghosts S) (old new : Held S) (rows : Vec Row Global) (r : Result A Fault)
    → IsQuery g old new (Ok rows) → IfErr r (λ fault. fault ≡ StoreFault) → IsLook g old new r
looks_ok g old new rows r q faults = record {
  survives = q.survives;
  mode = q.mode;
  same = λ clean other. q.kept clean;
  kinds = only_store r faults;
}

pub looks_err : {S A : Type 0} (g : Ghosts S) (old mid new : Held S) (e : Error) (fault : Fault)
    → IsQuery g old mid (Err e) → (fault ≡ OutOfMemory) ⊎ (fault ≡ StoreFault)
    → (fault ≡ OutOfMemory → HasCleanDisk (state g new) → IsTrue (state g mid).is_open
    × KeepsTables (state g mid) (state g new))
    → (mid.in_transaction ≡ false → new.in_transaction ≡ false)
    → Survives (state g mid) (state g new) (λ _. ⊥) → IsLook {A = A} g old new (Err fault)
looks_err {A = A} g old mid new e fault q kinds kept mode survives = record {
  survives = survives_on (state g old) (state g mid) (state g new) q.survives survives;
  mode = λ idle. mode (q.mode idle);
  same = λ clean other.
      let low = survives.clean in
      let on = kept (of_memory fault kinds other) clean in
      keeps_then (state g old) (state g mid) (state g new) (q.intact (omega (arith, low)) on.0)
      on.1;
  kinds = kinds;
}
  where
    of_memory : (fault : Fault) → (fault ≡ OutOfMemory) ⊎ (fault ≡ StoreFault)
        → ◌≢◌ {A = Result A Fault} (Err fault) (Err StoreFault) → fault ≡ OutOfMemory
    of_memory fault (inl memory) other = memory
    of_memory fault (inr failed) other = absurd (other (ap Err failed))

-- one look after another
pub look_then : {S A B : Type 0} (g : Ghosts S) (old mid new : Held S) (a : A) (r : Result B Fault)
    → IsLook g old mid (Ok a) → IsLook g mid new r → IsLook g old new r
look_then {A = A} g old mid new a r one two = record {
  survives = survives_on (state g old) (state g mid) (state g new) one.survives two.survives;
  mode = λ idle. two.mode (one.mode idle);
  same = λ clean other.
      let low = two.survives.clean in
      keeps_then (state g old) (state g mid) (state g new) (one.same (omega (arith, low)) not_failed)
      (two.same clean other);
  kinds = two.kinds;
}
  where
    not_failed : ◌≢◌ {A = Result A Fault} (Ok a) (Err StoreFault)
    not_failed e = cc

pub look_failed : {S A B : Type 0} (g : Ghosts S) (old new : Held S) (fault : Fault)
    → IsLook {A = A} g old new (Err fault) → IsLook {A = B} g old new (Err fault)
look_failed {A = A} {B = B} g old new fault look = record {
  survives = look.survives;
  mode = look.mode;
  same = λ clean other. look.same clean
      (λ e. other (let is : fault ≡ StoreFault = same_fault e in ap Err is));
  kinds = look.kinds;
}
  where
    same_fault : ◌≡◌ {A = Result A Fault} (Err fault) (Err StoreFault) → fault ≡ StoreFault
    same_fault e = cc

-- what comes of a look, once more: nothing else was done
pub look_as : {S A B : Type 0} (g : Ghosts S) (old new : Held S) (a : A) (b : B) → IsLook g old new (Ok a)
    → IsLook g old new (Ok b)
look_as {A = A} g old new a b look = record {
  survives = look.survives;
  mode = look.mode;
  same = λ clean other. look.same clean not_failed;
  kinds = tt;
}
  where
    not_failed : ◌≢◌ {A = Result A Fault} (Ok a) (Err StoreFault)
    not_failed e = cc

pub is_found : {A : Type 0} (r : Result A Fault) (found : A) → r ≡ Ok found → IfOk r (λ it. it ≡ found)
is_found r found is = subst (λ q. IfOk q (λ it. it ≡ found)) (sym is) refl

pub fits_found : {A : Type 0} (P : A → Type 0) (hit : A → Bool) (all : List A) → AllByRecursion P all
    → AllByRecursion P (one_of (find hit all))
fits_found P hit [] fits = tt
fits_found P hit (a ∷ all) fits = elim (cases_Bool (hit a)) [
  | inl here ↦ rw here (fits.0, tt)
  | inr other ↦ rw other (fits_found P hit all fits.1)
]

-- the tables hold the book still
pub holds_on : {S A : Type 0} (g : Ghosts S) (old new : Held S) (r : Result A Fault) (book : Book) → IsLook g old new r
    → HasCleanDisk (state g new) → ◌≢◌ r (Err StoreFault) → HoldsBook g old book → HoldsBook g new book
holds_on g old new r book look clean other held =
    (held.0, (look.same clean other).rests VERSION held.0 held.1, held.2)

pub was_clean : {S A : Type 0} (g : Ghosts S) (old new : Held S) (r : Result A Fault) → IsLook g old new r
    → HasCleanDisk (state g new) → HasCleanDisk (state g old)
was_clean g old new r look clean = let low = look.survives.clean in omega (arith, low)

pub holds_after : {S A : Type 0} (g : Ghosts S) (old new : Held S) (a : A) (book : Book) → IsLook g old new (Ok a)
    → HasCleanDisk (state g new) → HoldsBook g old book → HoldsBook g new book
holds_after {A = A} g old new a book look clean held = holds_on g old new (Ok a) book look clean not_failed held
  where
    not_failed : ◌≢◌ {A = Result A Fault} (Ok a) (Err StoreFault)
    not_failed e = cc

-- ---- by a name that one record has at most

one_moved : {X : Type 0} (o : Option X) (ys : List X) → IsPermutation (one_of o) ys → ys ≡ one_of o
one_moved None ys same = none_moved [] ys refl same
one_moved (Some x) ys same = one_permutation x ys same

map_one : {A B : Type 0} (f : A → B) (o : Option A) → map f (one_of o) ≡ one_of (option_map f o)
map_one f None = refl
map_one f (Some a) = refl

pub found_rows : OneTableAnswers → {A : Type 0} (row shown : A → Row) (hit : A → Bool) (params : Row) (tree : ℕ)
    (tests project : List Term) → ((a : A) → passes tests params (row a) ≡ hit a)
    → ((a : A) → shows project params (row a) ≡ shown a) → (trees : Trees) (all : List A)
    → overlay trees [] tree ≡ map row all → filter hit all ≡ one_of (find hit all) → (r : Result (Vec Row Global) Error)
    → IfOk r (λ rows. IsAnswer (simple tree tests project []) (overlay trees []) params rows.items)
    → IfOk r (λ rows. rows.items ≡ map shown (one_of (find hit all)))
found_rows answers row shown hit params tree tests project tested shows_it trees all here one (Err e) h = tt
found_rows answers {A = A} row shown hit params tree tests project tested shows_it trees all here one (Ok rows) h =
    let q : Query = simple tree tests project [] in
    let s = answers.sorted tree tests project [] (overlay trees []) params rows.items h in
    let passed : filter (passes tests params) (overlay trees [] tree) ≡ map row (one_of (find hit all)) =
    ap (filter (passes tests params)) here ∙ filter_of row (passes tests params) hit tested all ∙ ap (map row) one in
    let selected : map (shows project params) (filter (passes tests params) (overlay trees [] tree))
    ≡ map shown (one_of (find hit all)) = ap (map (shows project params)) passed
    ∙ map-map (shows project params) row (one_of (find hit all))
    ∙ map_same (λ (a : A). shows project params (row a)) shown shows_it (one_of (find hit all)) in
    let some : map shown (one_of (find hit all)) ≡ one_of (option_map shown (find hit all)) =
    map_one shown (find hit all) in
    one_moved _ rows.items (subst (λ xs. IsPermutation xs rows.items) (selected ∙ some)
    (answers.shown q params _ rows.items s))
    ∙ sym some

-- ---- the first of those that pass, in the order of their numbers

take_found : {A : Type 0} (shown : A → Row) (hit : A → Bool) (all : List A)
    → take 1 (map shown (filter hit all)) ≡ map shown (one_of (find hit all))
take_found shown hit [] = refl
take_found shown hit (a ∷ all) = elim (cases_Bool (hit a)) [
  | inl here ↦ rw here refl
  | inr other ↦ rw other (take_found shown hit all)
]

pub first_rows : OneTableAnswers → {A : Type 0} (t : Table) (tests : List Term) (row shown : A → Row) (id : A → ℤ)
    (hit : A → Bool) (params : Row)
    → ((a b : A) → int_cmp (id a) (id b) ≡ Less → output_cmp (first_query t tests)
    (output (first_query t tests) (params ∷ row a ∷ [])) (output (first_query t tests) (params ∷ row b ∷ [])) ≡ Less)
    → ((a : A) → (output (first_query t tests) (params ∷ row a ∷ [])).1 ≡ shown a)
    → (trees : Trees) (all : List A) → AllByRecursion (λ a. passes tests params (row a) ≡ hit a) all
    → IsAscending (λ a b. int_cmp (id a) (id b) ≡ Less) all
    → overlay trees [] t.tree ≡ map row all → (rows : List Row)
    → IsAnswer (first_query t tests) (overlay trees []) params rows → rows ≡ map shown (one_of (find hit all))
first_rows answers {A = A} t tests row shown id hit params by shows_it trees all tested up here rows a =
    let q : Query = first_query t tests in
    let out = λ (a : A). output q (params ∷ row a ∷ []) in
    let s = answers.sorted t.tree tests (columns_of t) q.order (overlay trees []) params (map (λ
    (o : Output). o.1) a.ordered) (record {
      staged = a.staged;
      grouped = a.grouped;
      kept = a.kept;
      distinct = a.distinct;
      ordered = a.ordered;
      same = a.same;
      sorted = a.sorted;
      shown = refl;
    }) in
    let passed : filter (passes tests params) (overlay trees [] t.tree) ≡ map row (filter hit all) =
    ap (filter (passes tests params)) here ∙ sym (map-filter row (passes tests params) all)
    ∙ ap (map row) (filter_agrees (λ (x : A). passes tests params (row x)) hit all tested) in
    let goals : map (λ r. output q (params ∷ r ∷ [])) (filter (passes tests params) (overlay trees [] t.tree))
    ≡ map out (filter hit all) = ap (map (λ r. output q (params ∷ r ∷ []))) passed
    ∙ map-map (λ (r : Row). output q (params ∷ r ∷ [])) row (filter hit all) in
    let rising : IsAscending (λ (a b : Output). output_cmp q a b ≡ Less) (map out (filter hit all)) =
    ascending-map (λ (a b : Output). output_cmp q a b ≡ Less) out (filter hit all)
    (ascending_weaker _ _ by (filter hit all) (ascending-filter _ hit all up)) in
    let ordered : s.ordered ≡ map out (filter hit all) = sorted_unique (output_cmp q) (output_cmp_total q)
    (map out (filter hit all)) s.ordered rising (subst (λ xs. IsPermutation xs s.ordered) goals s.same) s.sorted in
    a.shown ∙ ap (λ (xs : List Row). take 1 xs) (s.shown ∙ ap (map (λ (o : Output). o.1)) ordered
    ∙ map-map (λ (o : Output). o.1) out (filter hit all) ∙ map_same (λ (x : A). (out x).1) shown shows_it
    (filter hit all))
    ∙ take_found shown hit all

-- ---- which rows the tests pass

two_truths : (a b : Bool) → (is_true (from_truth (Some a)) && (is_true (from_truth (Some b)) && true)) ≡ (a && b)
two_truths true true = refl
two_truths true false = refl
two_truths false true = refl
two_truths false false = refl

above_is : (m n : ℕ) (r : Ordering) → MatchOrdering r (pos m <ℤ pos n) (pos m ≡ pos n) (pos n <ℤ pos m)
    → is_gt r ≡ nat_lt n m
above_is m n Less h = elim (cases_Bool (nat_lt n m)) [
  | inl both ↦ absurd (let low = ltb-true n m both in let below : pos m <ℤ pos n = h in omega (arith, ints))
  | inr other ↦ sym other
]
above_is m n Equal h = elim (cases_Bool (nat_lt n m)) [
  | inl both ↦ absurd (let low = ltb-true n m both in let same : pos m ≡ pos n = h in omega (arith, ints))
  | inr other ↦ sym other
]
above_is m n Greater h = let above : pos n <ℤ pos m = h in sym (lt-ltb n m (omega (arith, ints)))

is_above : (m n : ℕ) → is_gt (value_cmp (Int (pos m)) (Int (pos n))) ≡ nat_lt n m
is_above m n = ap is_gt (value_cmp-Int (pos m) (pos n)) ∙ above_is m n _ (int_ranks (pos m) (pos n))

pub order_passes : (sender reference : List ℕ) (o : Order)
    → passes order_tests (Text sender ∷ Text reference ∷ []) (order_row o) ≡ is_order_named sender reference o
unfolding binary
order_passes sender reference o =
    let one = same_text o.sender sender in
    let other = same_text o.reference reference in
    two_truths (is_eq (value_cmp (Text o.sender) (Text sender))) (is_eq (value_cmp (Text o.reference) (Text reference)))
    ∙ ap (λ b. b && is_eq (value_cmp (Text o.reference) (Text reference))) one
    ∙ ap (λ b. bytes_eq o.sender sender && b) other

pub posting_passes : (reference : List ℕ) (p : Posting)
    → passes posting_tests (Text reference ∷ []) (posting_row p) ≡ is_posting_named reference p
unfolding binary
posting_passes reference p = truth_of _ ∙ same_text p.reference reference

pub posting_is_after : (number : ℕ) (p : Posting)
    → passes after_tests (Int (pos number) ∷ []) (posting_row p) ≡ nat_lt number p.number
unfolding binary
posting_is_after number p = truth_of _ ∙ is_above p.number number

pub order_is_after : (date number : ℕ) (o : Order)
    → passes order_after_tests (Text (date_text date) ∷ Int (pos number) ∷ []) (order_row o)
    ≡ (bytes_eq (date_text o.date) (date_text date) && nat_lt number o.number)
unfolding binary
order_is_after date number o =
    two_truths (is_eq (value_cmp (Text (date_text o.date)) (Text (date_text date))))
    (is_gt (value_cmp (Int (pos o.number)) (Int (pos number))))
    ∙ ap (λ b. b && is_gt (value_cmp (Int (pos o.number)) (Int (pos number)))) (same_text (date_text o.date)
    (date_text date))
    ∙ ap (λ b. bytes_eq (date_text o.date) (date_text date) && b) (is_above o.number number)

pub mark_is_after : (number : ℕ) (m : Mark)
    → passes after_tests (Int (pos number) ∷ []) (mark_row m) ≡ nat_lt number m.number
unfolding binary
mark_is_after number m = truth_of _ ∙ is_above m.number number

pub order_is_above : (number : ℕ) (o : Order)
    → passes after_tests (Int (pos number) ∷ []) (order_row o) ≡ nat_lt number o.number
unfolding binary
order_is_above number o = truth_of _ ∙ is_above o.number number

pub forward_is_above : (number : ℕ) (f : Forward)
    → passes after_tests (Int (pos number) ∷ []) (forward_row f) ≡ nat_lt number f.number
unfolding binary
forward_is_above number f = truth_of _ ∙ is_above f.number number

pub forward_is_under : (number : ℕ) (f : Forward)
    → passes under_tests (Int (pos number) ∷ []) (forward_row f) ≡ (f.number == number)
unfolding binary
forward_is_under number f = truth_of _ ∙ same_number f.number number

-- ---- no name comes twice

none_named : {A K : Type 0} (name : A → K) (eq : K → K → Bool) (k : K) (all : List A)
    → ((a b : K) → eq a k ≡ true → eq b k ≡ true → eq a b ≡ true) → (x : A) → eq (name x) k ≡ true
    → AllByRecursion (λ y. eq (name x) y ≡ false) (map name all) → filter (λ a. eq (name a) k) all ≡ []
none_named name eq k [] tied x here apart = refl
none_named name eq k (y ∷ ys) tied x here apart = elim (cases_Bool (eq (name y) k)) [
  | inl also ↦ absurd (let clash : ◌≡◌ {A = Bool} true false = sym (tied (name x) (name y) here also) ∙ apart.0 in cc)
  | inr other ↦ rw other (none_named name eq k ys tied x here apart.1)
]

pub one_named : {A K : Type 0} (name : A → K) (eq : K → K → Bool) (k : K) (all : List A)
    → ((a b : K) → eq a k ≡ true → eq b k ≡ true → eq a b ≡ true) → IsDistinct eq (map name all)
    → filter (λ a. eq (name a) k) all ≡ one_of (find (λ a. eq (name a) k) all)
unfolding IsDistinct
one_named name eq k [] tied distinct = refl
one_named name eq k (x ∷ xs) tied distinct = elim (cases_Bool (eq (name x) k)) [
  | inl here ↦ rw here (ap (λ more. x ∷ more) (none_named name eq k xs tied x here distinct.0))
  | inr other ↦ rw other (one_named name eq k xs tied distinct.1)
]

bytes_tied : (k a b : List ℕ) → bytes_eq a k ≡ true → bytes_eq b k ≡ true → bytes_eq a b ≡ true
bytes_tied k a b one two = (bytes_eq-Decides a b).1 ((bytes_eq-Decides a k).0 one ∙ sym ((bytes_eq-Decides b k).0 two))

names_tied : (k a b : List ℕ × List ℕ) → is_same_name a k ≡ true → is_same_name b k ≡ true → is_same_name a b ≡ true
names_tied k a b one two =
    let p = and_parts (bytes_eq a.0 k.0) (bytes_eq a.1 k.1) one in
    let q = and_parts (bytes_eq b.0 k.0) (bytes_eq b.1 k.1) two in
    rw (bytes_tied k.0 a.0 b.0 p.0 q.0, bytes_tied k.1 a.1 b.1 p.1 q.1) refl

-- ---- the two finds

-- with the parameters as they are bound
pub finds_posting : OneTableAnswers → (reference : List ℕ) (book : Book) (old : State) (content : Content)
    → Rests content old → IsBookOf book content → (r : Result (Vec Row Global) Error) (given : Row)
    → given ≡ Text reference ∷ []
    → IfOk r (λ rows. IsAnswer posting_query (overlay old.now.trees []) given rows.items)
    → IfOk r (λ rows. rows.items ≡ map shown_posting (one_of (posting_named book reference)))
unfolding posting_named
finds_posting answers reference book old content rests of r given same answer =
    let here : old.now.trees posting_table.tree ≡ map posting_row book.postings =
    ap (λ (d : Database). d.trees posting_table.tree) rests.clean
    ∙ ap (rows_in posting_table) rests.holds.rows ∙ ap (map posting_row) of.records.lists.postings in
    found_rows answers posting_row shown_posting (is_posting_named reference) (Text reference ∷ []) posting_table.tree
    posting_tests (columns_of posting_table) (posting_passes reference) (λ p. refl) old.now.trees book.postings here
    (one_named (λ (p : Posting). p.reference) bytes_eq reference book.postings (bytes_tied reference)
    of.sound.posting_references) r
    (subst (λ p. IfOk r (λ rows. IsAnswer posting_query (overlay old.now.trees []) p rows.items)) same answer)

pub finds_order : OneTableAnswers → (sender reference : List ℕ) (book : Book) (old : State) (content : Content)
    → Rests content old → IsBookOf book content → (r : Result (Vec Row Global) Error) (given : Row)
    → given ≡ Text sender ∷ Text reference ∷ []
    → IfOk r (λ rows. IsAnswer order_query (overlay old.now.trees []) given rows.items)
    → IfOk r (λ rows. rows.items ≡ map shown_order (one_of (order_named book sender reference)))
unfolding order_named
finds_order answers sender reference book old content rests of r given same answer =
    let here : old.now.trees order_table.tree ≡ map order_row book.orders =
    ap (λ (d : Database). d.trees order_table.tree) rests.clean
    ∙ ap (rows_in order_table) rests.holds.rows ∙ ap (map order_row) of.records.lists.orders in
    found_rows answers order_row shown_order (is_order_named sender reference) (Text sender ∷ Text reference ∷ [])
    order_table.tree order_tests (columns_of order_table) (order_passes sender reference) (λ o. refl)
    old.now.trees book.orders here
    (one_named (λ (o : Order). (o.sender, o.reference)) is_same_name (sender, reference) book.orders
    (names_tied (sender, reference)) of.sound.order_references) r
    (subst (λ p. IfOk r (λ rows. IsAnswer order_query (overlay old.now.trees []) p rows.items)) same answer)
