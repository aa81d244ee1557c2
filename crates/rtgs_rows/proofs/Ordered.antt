-- The records stand in order before each change of a list, where those of the book after it do.
use Rattle.std.proofs.Common.{◌≡◌, inl, inr, ◌≢◌, ℕ, ℤ, ◌+◌, ◌<◌, pos, zero, suc, List, [], ◌∷◌, ◌++◌, map, length}
use Rattle.std.proofs.Common.{Bool, true, false, Option, Some, None, sym, subst, ◌∙◌, arith}
use Rattle.std.specs.List.{AllByRecursion, IsDistinct, range_with_len}
use Rattle.std.specs.List.Sorted.{IsPermutation, IsStrictlySortedBy}
use Rattle.std.specs.Ordering.{int_cmp, nat_cmp, eq_by_cmp}
use Rattle.std.specs.declared.cmp.Ordering.TheVariants.{Less}
use Rattle.std.specs.Cmp.{int_cmp_is}
use Rattle.std.specs.Cmp.Lexicographic.{slice_cmp}
use Rattle.std.specs.Str.{bytes_eq}
use Rattle.std.proofs.lemmas.Bool.{cases_Bool}
use Rattle.std.proofs.lemmas.Int.{ints}
use Rattle.std.proofs.lemmas.List.Sorted.{IsPermutation-map, IsPermutation-sym}
use Rattle.std.proofs.lemmas.Map.Keys.{IsDistinct-IsPermutation, IsDistinct-from_sorted}
use Rattle.std.proofs.lemmas.Map.Text.{is_eq-slice_cmp}
use Rattle.std.proofs.lemmas.Slice.Eq.{bytes_eq-Decides}
use Rattle.sqlite.specs.Tree.{IsAscending}
use Rattle.rtgs_lists.proofs.Codes.{bytes_eq_comm}
use Rattle.rtgs_lists.proofs.Lists.{all_push}
use Rattle.sqlite_keyed.proofs.ListLemmas.{ascending-map, ascending_from_map, ascending_weaker}
use Rattle.rtgs_book.specs.declared.book.Book.{Book}
use Rattle.rtgs_book.specs.declared.participant.Participant.{Participant}
use Rattle.rtgs_book.specs.declared.order.Order.{Order}
use Rattle.rtgs_book.specs.declared.change.RowChange.{RowChange}
use Rattle.rtgs_book.specs.declared.change.RowChange.TheVariants.{AddParticipant, SetCredit, SetBalance}
use Rattle.rtgs_book.specs.Changes.{with_row}
use Rattle.rtgs_book.specs.Lookup.{codes_of}
use Rattle.rtgs_book.specs.Soundness.{AreNumbered, IsSound}
use Rattle.rtgs_rows.specs.Content.{Holding, Content, newcomer, with_credit_in, with_balance_in, with_change}
use Rattle.rtgs_rows.specs.Content.{with_changes, Rise, IsInOrder, AreInOrder}
use Rattle.rtgs_rows.specs.Dues.{forward_for, forwards_of}
use Rattle.rtgs_rows.specs.Keeping.{AreOf}
use Rattle.rtgs_rows.proofs.NextRow.{all_below}
use Rattle.rtgs_rows.proofs.Steps.{all_front, front, posting_step, order_step, mark_step, forward_step}
use Rattle.rtgs_rows.specs.declared.forward.Forward.{Forward}

snoc : {A : Type 0} (R : A → A → Type 0) (xs : List A) (x : A) → IsAscending R xs → AllByRecursion (λ a. R a x) xs
    → IsAscending R (xs ++ x ∷ [])
snoc R [] x h below = (tt, tt)
snoc R (y ∷ ys) x h below = (all_push (R y) ys x h.0 below.0, snoc R ys x h.1 below.1)

abbrev Ids : Content → Type 0
Ids c = Rise (λ (h : Holding). h.id) c.holdings

abbrev Differ : List Holding → Type 0
Differ = IsAscending (λ (a b : Holding). a.participant.code ≢ b.participant.code)

-- ---- a change keeps what names a record

credit_id : (code : List ℕ) (credit : ℕ) (h : Holding) → ((with_credit_in code credit h).id ≡ h.id)
    × ((with_credit_in code credit h).participant.code ≡ h.participant.code)
credit_id code credit h = elim (cases_Bool (bytes_eq h.participant.code code))
    [ inl hit ↦ (rw hit, rw hit) | inr miss ↦ (rw miss, rw miss) ]

balance_id : (code : List ℕ) (balance : ℤ) (h : Holding) → ((with_balance_in code balance h).id ≡ h.id)
    × ((with_balance_in code balance h).participant.code ≡ h.participant.code)
balance_id code balance h = elim (cases_Bool (bytes_eq h.participant.code code))
    [ inl hit ↦ (rw hit, rw hit) | inr miss ↦ (rw miss, rw miss) ]

differ_back : (f : Holding → Holding) → ((h : Holding) → (f h).participant.code ≡ h.participant.code)
    → (hs : List Holding) → Differ (map f hs) → Differ hs
differ_back f same hs h =
    ascending_weaker (λ a b. (f a).participant.code ≢ (f b).participant.code)
    (λ a b. a.participant.code ≢ b.participant.code) (λ a b ne e. ne (same a ∙ e ∙ sym (same b))) hs
    (ascending_from_map (λ (a b : Holding). a.participant.code ≢ b.participant.code) f hs h)

ids_map : (f : Holding → Holding) → ((h : Holding) → (f h).id ≡ h.id) → (hs : List Holding)
    → Rise (λ (h : Holding). h.id) hs → Rise (λ (h : Holding). h.id) (map f hs)
ids_map f same hs h =
    ascending-map (λ (a b : Holding). int_cmp a.id b.id ≡ Less) f hs
    (ascending_weaker (λ (a b : Holding). int_cmp a.id b.id ≡ Less) (λ a b. int_cmp (f a).id (f b).id ≡ Less)
    (λ a b low. rw (same a, same b) low) hs h)

differed : (c : Content) (row : RowChange) → Differ ((with_change c row).holdings) → Differ c.holdings
differed c (AddParticipant p) h = front _ c.holdings (newcomer c p) h
differed c (SetCredit code credit) h = differ_back (with_credit_in code credit) (λ h. (credit_id code credit h).1)
    c.holdings h
differed c (SetBalance code balance) h = differ_back (with_balance_in code balance)
    (λ h. (balance_id code balance h).1) c.holdings h
differed c row h = h

back : (b : Book) (c : Content) (row : RowChange) → Ids c → IsInOrder (with_change c row) → IsInOrder c
back b c row ids order = record {
  ids = ids;
  codes = differed c row order.codes;
  postings = (posting_step b c row).rose order.postings;
  orders = (order_step b c row).rose order.orders;
  marks = (mark_step b c row).rose order.marks;
  forwards = (forward_step b c row).rose order.forwards;
}

ids_on : (c : Content) (row : RowChange) → Ids c → Ids (with_change c row)
ids_on c (AddParticipant p) ids = snoc _ c.holdings (newcomer c p) ids (all_below c.holdings ids)
ids_on c (SetCredit code credit) ids = ids_map (with_credit_in code credit) (λ h. (credit_id code credit h).0)
    c.holdings ids
ids_on c (SetBalance code balance) ids = ids_map (with_balance_in code balance) (λ h. (balance_id code balance h).0)
    c.holdings ids
ids_on c row ids = ids

pub ids_after : (rows : List RowChange) (c : Content) → Ids c → Ids (with_changes c rows)
ids_after [] c ids = ids
ids_after (row ∷ rows) c ids = ids_after rows (with_change c row) (ids_on c row ids)

all_back : (b : Book) (rows : List RowChange) (c : Content) → Ids c → IsInOrder (with_changes c rows) → IsInOrder c
all_back b [] c ids order = order
all_back b (row ∷ rows) c ids order = back b c row ids
    (all_back (with_row b row) rows (with_change c row) (ids_on c row ids) order)

pub all_in_order : (b : Book) (rows : List RowChange) (c : Content) → Ids c → IsInOrder (with_changes c rows)
    → AreInOrder c rows
all_in_order b [] c ids order = order
all_in_order b (row ∷ rows) c ids order = (
  all_back b (row ∷ rows) c ids order,
  all_in_order (with_row b row) rows (with_change c row) (ids_on c row ids) order,
)

-- ---- a sound book names its records apart

above : (low s len : ℕ) → low < s → AllByRecursion (λ n. int_cmp (pos low) (pos n) ≡ Less) (range_with_len s len)
above low s zero h = tt
above low s (suc len) h = (
  sym (int_cmp_is (pos low) (pos s) Less (omega (arith, ints))),
  above low (s + 1) len
      (omega arith),
)

range_rises : (s len : ℕ) → IsAscending (λ m n. int_cmp (pos m) (pos n) ≡ Less) (range_with_len s len)
range_rises s zero = tt
range_rises s (suc len) = (above s (s + 1) len (omega arith), range_rises (s + 1) len)

pub rises : {A : Type 0} (number : A → ℕ) (xs : List A) → AreNumbered (map number xs)
    → Rise (λ a. pos (number a)) xs
rises number xs is =
    ascending_from_map (λ m n. int_cmp (pos m) (pos n) ≡ Less) number xs
    (subst (IsAscending (λ m n. int_cmp (pos m) (pos n) ≡ Less)) (sym is.0) (range_rises 1 (length (map number xs))))

-- a list of a content that is a book's
list_rises : {A : Type 0} (number : A → ℕ) {xs ys : List A} → xs ≡ ys → AreNumbered (map number ys)
    → Rise (λ a. pos (number a)) xs
list_rises number {ys = ys} same is = subst (Rise (λ a. pos (number a))) (sym same) (rises number ys is)

-- the due dates of orders whose numbers rise stand in the order of their numbers
pub dues_above : (number : ℕ) (os : List Order)
    → AllByRecursion (λ (o : Order). int_cmp (pos number) (pos o.number) ≡ Less) os
    → AllByRecursion (λ (f : Forward). int_cmp (pos number) (pos f.number) ≡ Less) (forwards_of os)
dues_above number [] h = tt
dues_above number (o ∷ os) h = by o.due h.0 (dues_above number os h.1)
  where
    by : (due : Option ℕ) → int_cmp (pos number) (pos o.number) ≡ Less
        → AllByRecursion (λ (f : Forward). int_cmp (pos number) (pos f.number) ≡ Less) (forwards_of os)
        → AllByRecursion (λ (f : Forward). int_cmp (pos number) (pos f.number) ≡ Less)
        (forward_for o.number due ++ forwards_of os)
    by None low rest = rest
    by (Some due) low rest = (low, rest)

pub dues_rise : (os : List Order) → Rise (λ (o : Order). pos o.number) os
    → Rise (λ (f : Forward). pos f.number) (forwards_of os)
dues_rise [] h = tt
dues_rise (o ∷ os) h = by o.due (dues_above o.number os h.0) (dues_rise os h.1)
  where
    by : (due : Option ℕ)
        → AllByRecursion (λ (f : Forward). int_cmp (pos o.number) (pos f.number) ≡ Less) (forwards_of os)
        → Rise (λ (f : Forward). pos f.number) (forwards_of os)
        → Rise (λ (f : Forward). pos f.number) (forward_for o.number due ++ forwards_of os)
    by None above rest = rest
    by (Some due) above rest = (above, rest)

each_test : {A : Type 0} (e f : A → A → Bool) → ((x y : A) → e x y ≡ f x y) → (x : A) (ys : List A)
    → AllByRecursion (λ y. e x y ≡ false) ys → AllByRecursion (λ y. f x y ≡ false) ys
each_test e f same x [] h = tt
each_test e f same x (y ∷ ys) h = (sym (same x y) ∙ h.0, each_test e f same x ys h.1)

same_test : {A : Type 0} (e f : A → A → Bool) → ((x y : A) → e x y ≡ f x y) → (xs : List A) → IsDistinct e xs
    → IsDistinct f xs
unfolding IsDistinct
same_test e f same [] h = tt
same_test e f same (x ∷ xs) h = (each_test e f same x xs h.0, same_test e f same xs h.1)

apart : (xs : List (List ℕ)) → IsDistinct bytes_eq xs → IsAscending (λ a b. a ≢ b) xs
unfolding IsDistinct
apart [] h = tt
apart (x ∷ xs) h = (each x xs h.0, apart xs h.1)
  where
    each : (x : List ℕ) (ys : List (List ℕ)) → AllByRecursion (λ y. bytes_eq x y ≡ false) ys
        → AllByRecursion (λ y. x ≢ y) ys
    each x [] h = tt
    each x (y ∷ ys) h = (
      λ same. let both : bytes_eq x y ≡ true = (bytes_eq-Decides x y).1 same
          in absurd (let clash : ◌≡◌ {A = Bool} true false = sym both ∙ h.0 in cc),
      each x ys h.1,
    )

codes_apart : (b : Book) (hs : List Holding) → IsPermutation (map (λ (h : Holding). h.participant) hs) b.participants
    → IsStrictlySortedBy (slice_cmp nat_cmp) (codes_of b) → Differ hs
unfolding codes_of
codes_apart b hs same sorted =
    let distinct = same_test (eq_by_cmp (slice_cmp nat_cmp)) bytes_eq is_eq-slice_cmp
    (map (λ (p : Participant). p.code) b.participants) (IsDistinct-from_sorted (slice_cmp nat_cmp) _ sorted) in
    let moved = IsPermutation-sym _ _ (IsPermutation-map (λ (p : Participant). p.code) _ _ same) in
    let of_holdings = IsDistinct-IsPermutation bytes_eq bytes_eq_comm _ _ moved distinct in
    ascending_from_map (λ (p q : Participant). p.code ≢ q.code) (λ (h : Holding). h.participant) hs
    (ascending_from_map (λ (a b : List ℕ). a ≢ b) (λ (p : Participant). p.code)
    (map (λ (h : Holding). h.participant) hs) (apart _ of_holdings))

pub order_of : (b : Book) (c : Content) → AreOf b c → Ids c → IsSound b → IsInOrder c
order_of b c are ids sound = record {
  ids = ids;
  codes = codes_apart b c.holdings are.participants sound.codes_rise.0;
  postings = list_rises _ are.lists.postings sound.postings_numbered;
  orders = list_rises _ are.lists.orders sound.orders_numbered;
  marks = list_rises _ are.lists.marks sound.marks_numbered;
  forwards = subst (Rise (λ (f : Forward). pos f.number)) (sym are.lists.forwards)
      (dues_rise b.orders (rises (λ (o : Order). o.number) b.orders sound.orders_numbered));
}

-- what holds of the codes after changes held before
codes_back : (P : List ℕ → Type 0) (f : Holding → Holding) → ((h : Holding)
    → (f h).participant.code ≡ h.participant.code) → (hs : List Holding)
    → AllByRecursion (λ (h : Holding). P h.participant.code) (map f hs)
    → AllByRecursion (λ (h : Holding). P h.participant.code) hs
codes_back P f same [] all = tt
codes_back P f same (h ∷ hs) all = (subst P (same h) all.0, codes_back P f same hs all.1)

code_back : (P : List ℕ → Type 0) (c : Content) (row : RowChange)
    → AllByRecursion (λ (h : Holding). P h.participant.code) ((with_change c row).holdings)
    → AllByRecursion (λ (h : Holding). P h.participant.code) c.holdings
code_back P c (AddParticipant p) all = all_front _ c.holdings (newcomer c p) all
code_back P c (SetCredit code credit) all = codes_back P (with_credit_in code credit) (λ h. (credit_id code credit h).1)
    c.holdings all
code_back P c (SetBalance code balance) all = codes_back P (with_balance_in code balance)
    (λ h. (balance_id code balance h).1) c.holdings all
code_back P c row all = all

pub all_codes_back : (P : List ℕ → Type 0) (rows : List RowChange) (c : Content)
    → AllByRecursion (λ (h : Holding). P h.participant.code) ((with_changes c rows).holdings)
    → AllByRecursion (λ (h : Holding). P h.participant.code) c.holdings
all_codes_back P [] c all = all
all_codes_back P (row ∷ rows) c all = code_back P c row (all_codes_back P rows (with_change c row) all)
