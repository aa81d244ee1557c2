-- What sums under keys hold.
use Rattle.std.proofs.Common.{◌≡◌, ℕ, zero, suc, ◌||◌, map, ◌+◌, ◌<◌, ◌≤◌, ◌^◌, ℤ, pos, neg_ℤ, ◌+ℤ◌, ◌-ℤ◌, Bool}
use Rattle.std.proofs.Common.{true, false, cond, List, [], ◌∷◌, ◌++◌, Option, Some, None, Ordering, filter, length}
use Rattle.std.proofs.Common.{take, get_or, sum_by, FitsSigned, unsigned_abs, w64, to_z, of_z, nat_cmp, refl, sym, ap}
use Rattle.std.proofs.Common.{◌∙◌, ◌&&◌, subst, arith}
use Rattle.std.proofs.lemmas.Int.{ints, to_z-of_z}
use Rattle.std.proofs.lemmas.List.{take_more, take_all}
use Rattle.std.proofs.lemmas.List.Elements.{filter-append}
use Rattle.std.proofs.lemmas.List.Sums.{sum_by-cons}
use Rattle.std.specs.BTreeMap.{BTreeMap, get, is_at}
use Rattle.std.specs.List.{AllByRecursion}
use Rattle.std.specs.Cmp.Lexicographic.{slice_cmp, bytes_decides, texts_ties}
use Rattle.std.specs.Str.{bytes_eq}
use Rattle.rtgs_book.specs.declared.order.Order.{Order}
use Rattle.rtgs_book.specs.declared.order_state.OrderState.{OrderState}
use Rattle.rtgs_book.specs.declared.order_state.OrderState.TheVariants.{Queued, Held, Settled, Withdrawn, Rejected}
use Rattle.rtgs_book.specs.Books.{is_settled, is_settled_state, is_waiting}
use Rattle.rtgs_book.specs.Balance.{gain}
use Rattle.std.specs.Int.{w128}
use Rattle.std.specs.Option.{option_map}
use Rattle.std.specs.Ordering.{eq_by_cmp}
use Rattle.std.specs.Set.{is_member}
use Rattle.rtgs_money.specs.declared.posting_amount.TheConstants.PostingAmount as PostingAmount
use Rattle.rtgs_book.specs.IntSum.{int_sum_by}
use Rattle.rtgs_book.specs.Totals.{Totals, Within, AreWithin}
use Rattle.rtgs_lists.proofs.Lists.{all_push}
use Rattle.rtgs_lists.proofs.Sums.{int_sum_by-append}

module _ {K : Type 0} (cmp : K → K → Ordering) (keys : List K) where
  by_member : (b : Bool) (y z : ℤ) → cond b (Some y) None ≡ Some z → z ≡ y
  by_member true y z e = cc
  by_member false y z e = absurd (cc)

  pub total_at : (f : K → ℤ) (m : BTreeMap K ℤ) (k : K) (z : ℤ) → Totals cmp keys f m → get cmp m k ≡ Some z → z ≡ f k
  total_at f m k z h e = by_member (is_member (eq_by_cmp cmp) keys k) (f k) z (sym (h k) ∙ e)

  -- after one more term
  abbrev pub with_term : (K → ℤ) → K → ℤ → K → ℤ
  with_term f k by q = f q +ℤ cond (eq_by_cmp cmp k q) by (pos 0)

  pub totals_added : (same : (a b : K) → eq_by_cmp cmp a b ≡ true → a ≡ b) (f : K → ℤ) (m n : BTreeMap K ℤ) (k : K)
      (by : ℤ) → Totals cmp keys f m
      → ((q : K) → get cmp n q ≡ cond (is_at (cmp k) q) (option_map (λ total. total +ℤ by) (get cmp m k)) (get cmp m q))
      → Totals cmp keys (with_term f k by) n
  totals_added same f m n k by h adds q = at (eq_by_cmp cmp k q) refl
    where
      moved : (c : Bool) (y : ℤ) → option_map (λ total. total +ℤ by) (cond c (Some y) None)
          ≡ cond c (Some (y +ℤ by)) None
      moved true y = refl
      moved false y = refl

      kept : (y : ℤ) → y ≡ y +ℤ pos 0
      kept y = omega (arith, ints)

      at : (b : Bool) → eq_by_cmp cmp k q ≡ b → get cmp n q ≡ cond (is_member (eq_by_cmp cmp) keys q)
          (Some (f q +ℤ cond b by (pos 0))) None
      at true e =
          let one : k ≡ q = same k q e in
          adds q ∙ ap (λ b. cond b (option_map (λ total. total +ℤ by) (get cmp m k)) (get cmp m q)) e
          ∙ ap (option_map (λ total. total +ℤ by)) (h k) ∙ moved _ (f k)
          ∙ ap (λ x. cond (is_member (eq_by_cmp cmp) keys x) (Some (f x +ℤ by)) None) one
      at false e =
          adds q ∙ ap (λ b. cond b (option_map (λ total. total +ℤ by) (get cmp m k)) (get cmp m q)) e ∙ h q
          ∙ ap (λ y. cond (is_member (eq_by_cmp cmp) keys q) (Some y) None) (kept (f q))

  pub totals_same : (f g : K → ℤ) (m : BTreeMap K ℤ) → ((q : K) → f q ≡ g q) → Totals cmp keys f m → Totals cmp keys g m
  totals_same f g m same h q = h q ∙ ap (λ y. cond (is_member (eq_by_cmp cmp) keys q) (Some y) None) (same q)

-- ---- sums over the first elements

module _ {X : Type 0} (p : X → Bool) (g : X → ℤ) (xs : List X) where
  -- over those of the first elements that pass
  abbrev pub sum_first : ℕ → ℤ
  sum_first i = int_sum_by g (filter p (take i xs))

  one_of : (b : Bool) (x : X) → int_sum_by g (cond b (x ∷ []) []) ≡ cond b (g x) (pos 0)
  one_of true x = omega (arith, ints)
  one_of false x = refl

  -- over all that pass, with one more at the end
  pub sum_pushed : (x : X) → int_sum_by g (filter p (xs ++ x ∷ []))
      ≡ int_sum_by g (filter p xs) +ℤ cond (p x) (g x) (pos 0)
  sum_pushed x =
      ap (int_sum_by g) (filter-append p xs (x ∷ []))
      ∙ int_sum_by-append g (filter p xs) (filter p (x ∷ []))
      ∙ ap (λ z. int_sum_by g (filter p xs) +ℤ z) (one_of (p x) x)

pub sum_more : {X : Type 0} (p : X → Bool) (g : X → ℤ) (xs : List X) (i : ℕ) (x : X) → i < length xs
    → x ≡ get_or xs i x → sum_first p g xs (i + 1) ≡ sum_first p g xs i +ℤ cond (p x) (g x) (pos 0)
sum_more p g xs i x less is =
    ap (λ ys. int_sum_by g (filter p ys)) (take_more xs i x less ∙ ap (λ y. take i xs ++ y ∷ []) (sym is))
    ∙ sum_pushed p g (take i xs) x

-- counts and amounts as sums
pub count_is_sum : {X : Type 0} (xs : List X) → int_sum_by (λ x. pos 1) xs ≡ pos (length xs)
count_is_sum [] = refl
count_is_sum (x ∷ xs) = let h = count_is_sum xs in omega (arith, ints)

pub amounts_are_sum : {X : Type 0} (f : X → ℕ) (xs : List X) → int_sum_by (λ x. pos (f x)) xs ≡ pos (sum_by f xs)
amounts_are_sum f [] = refl
amounts_are_sum f (x ∷ xs) = let h = amounts_are_sum f xs in let s = sum_by-cons f x xs in omega (arith, ints)

-- one more term leaves each sum within a larger bound
pub within_added : {K : Type 0} (cmp : K → K → Ordering) (bound more : ℕ) (m n : BTreeMap K ℤ) (k : K) (by : ℤ)
    → Within more by → AreWithin cmp bound m
    → ((q : K) → get cmp n q ≡ cond (is_at (cmp k) q) (option_map (λ total. total +ℤ by) (get cmp m k)) (get cmp m q))
    → AreWithin cmp (bound + more) n
within_added cmp bound more m n k by fits h adds q z e = at (is_at (cmp k) q) (get cmp m k) (get cmp m q) (h k) (h q)
    (sym (adds q) ∙ e)
  where
    at : (b : Bool) (x y : Option ℤ) → ((t : ℤ) → x ≡ Some t → Within bound t) → ((t : ℤ) → y ≡ Some t → Within bound t)
        → cond b (option_map (λ total. total +ℤ by) x) y ≡ Some z → Within (bound + more) z
    at true None y f g e = absurd (cc)
    at true (Some t) y f g e =
        let r = f t refl in
        let same : t +ℤ by ≡ z = cc in
        let low = r.0 in let high = r.1 in let l = fits.0 in let u = fits.1 in
        (omega (arith, ints), omega (arith, ints))
    at false x y f g e = let r = g z e in let low = r.0 in let high = r.1 in (omega (arith, ints), omega (arith, ints))

-- what an addition leaves
abbrev pub Adds : {K : Type 0} → (K → K → Ordering) → BTreeMap K ℤ → K → ℤ → BTreeMap K ℤ → Type 0
Adds {K} cmp m k by n = (q : K) → get cmp n q ≡ cond (is_at (cmp k) q) (option_map (λ total. total +ℤ by) (get cmp m k))
    (get cmp m q)

-- far within 128 bits
pub fits_wide : (z : ℤ) → Within (10 ^ 30) z → FitsSigned w128 z
fits_wide z h = let low = h.0 in let high = h.1 in omega (arith, ints)

-- as a value of 128 bits
pub wide : (z : ℤ) → Within (10 ^ 30) z → to_z w128 (of_z w128 z) ≡ z
wide z h = to_z-of_z w128 z (fits_wide z h)

-- a posting's amount, as a value of 128 bits
pub cents_are : (cents : ℤ) (c : ℤ) (a : ℤ) → a ≡ to_z w64 (of_z w64 c) → c ≡ cents
    → unsigned_abs cents ≤ PostingAmount.MAX → Within PostingAmount.MAX cents × (to_z w128 (of_z w128 a) ≡ cents)
cents_are cents c a e f few =
    let fits : Within PostingAmount.MAX cents = (omega (arith, ints), omega (arith, ints)) in
    let narrow : to_z w64 (of_z w64 c) ≡ c = to_z-of_z w64 c (omega (arith, ints)) in
    let same : a ≡ cents = e ∙ narrow ∙ f in
    (fits, wide a (omega (arith, ints), omega (arith, ints)) ∙ same)

exact_text : (a b : List ℕ) → eq_by_cmp (slice_cmp nat_cmp) a b ≡ true → a ≡ b
exact_text a b e = (bytes_decides a b).0 (texts_ties a b ∙ e)

pub texts_added : (codes : List (List ℕ)) (f : List ℕ → ℤ) (m n : BTreeMap (List ℕ) ℤ) (k : List ℕ) (by given : ℤ)
    → given ≡ by → Totals (slice_cmp nat_cmp) codes f m → Adds (slice_cmp nat_cmp) m k given n
    → Totals (slice_cmp nat_cmp) codes (λ code. f code +ℤ cond (bytes_eq k code) by (pos 0)) n
texts_added codes f m n k by given same h adds =
    totals_same (slice_cmp nat_cmp) codes (with_term (slice_cmp nat_cmp) codes f k given)
    (λ code. f code +ℤ cond (bytes_eq k code) by (pos 0)) n
    (λ q i. f q +ℤ cond (sym (texts_ties k q) i) (same i) (pos 0))
    (totals_added (slice_cmp nat_cmp) codes exact_text f m n k given h adds)

pub order_added : (codes : List (List ℕ)) (f : List ℕ → ℤ) (m n k : BTreeMap (List ℕ) ℤ) (o : Order) (given back : ℤ)
    → is_settled o ≡ true → given ≡ pos o.amount → back ≡ neg_ℤ (pos o.amount) → Totals (slice_cmp nat_cmp) codes f m
    → Adds (slice_cmp nat_cmp) m o.receiver given n → Adds (slice_cmp nat_cmp) n o.sender back k
    → Totals (slice_cmp nat_cmp) codes (λ code. f code +ℤ cond (is_settled o) (gain code o) (pos 0)) k
unfolding gain
order_added codes f m n k o given back settled forth off h adds takes =
    totals_same (slice_cmp nat_cmp) codes
    (λ code. f code +ℤ cond (bytes_eq o.receiver code) (pos o.amount) (pos 0) +ℤ cond (bytes_eq o.sender code)
    (neg_ℤ (pos o.amount)) (pos 0))
    (λ code. f code +ℤ cond (is_settled o) (gain code o) (pos 0)) k
    (λ q. rw settled (both (f q) o.amount (bytes_eq o.receiver q) (bytes_eq o.sender q)))
    (texts_added codes (λ code. f code +ℤ cond (bytes_eq o.receiver code) (pos o.amount) (pos 0)) n k o.sender
    (neg_ℤ (pos o.amount)) back off (texts_added codes f m n o.receiver (pos o.amount) given forth h adds) takes)
  where
    both : (z : ℤ) (a : ℕ) (r s : Bool) → z +ℤ cond r (pos a) (pos 0) +ℤ cond s (neg_ℤ (pos a)) (pos 0)
        ≡ z +ℤ (cond r (pos a) (pos 0) -ℤ cond s (pos a) (pos 0))
    both z a true true = omega (arith, ints)
    both z a true false = omega (arith, ints)
    both z a false true = omega (arith, ints)
    both z a false false = omega (arith, ints)

-- one more element
pub all_more : {X : Type 0} (P : X → Type 0) (xs : List X) (i : ℕ) (x : X) → i < length xs → x ≡ get_or xs i x
    → AllByRecursion P (take i xs) → P x → AllByRecursion P (take (i + 1) xs)
all_more P xs i x less is h p = subst (AllByRecursion P) (sym
    (take_more xs i x less ∙ ap (λ y. take i xs ++ y ∷ []) (sym is))) (all_push P (take i xs) x h p)

-- all of them
pub all_of_take : {X : Type 0} (P : X → Type 0) (xs : List X) (i : ℕ) → length xs ≤ i → AllByRecursion P (take i xs)
    → AllByRecursion P xs
all_of_take P xs i past h = subst (AllByRecursion P) (take_all i xs past) h

pub sum_all : {X : Type 0} (p : X → Bool) (g : X → ℤ) (xs : List X) (i : ℕ) → length xs ≤ i
    → sum_first p g xs i ≡ int_sum_by g (filter p xs)
sum_all p g xs i past = ap (λ ys. int_sum_by g (filter p ys)) (take_all i xs past)

settled_or_not : (o : Order) → ((mark : ℕ) → o.state ≡ Settled mark → ⊥) → is_settled o ≡ false
settled_or_not o h = by o.state h
  where
    by : (s : OrderState) → ((mark : ℕ) → s ≡ Settled mark → ⊥) → is_settled_state s ≡ false
    by Queued h = refl
    by Held h = refl
    by (Settled mark) h = absurd (h mark refl)
    by Withdrawn h = refl
    by Rejected h = refl

pub not_settled : (codes : List (List ℕ)) (f : List ℕ → ℤ) (m : BTreeMap (List ℕ) ℤ) (o : Order)
    → ((mark : ℕ) → o.state ≡ Settled mark → ⊥) → Totals (slice_cmp nat_cmp) codes f m
    → Totals (slice_cmp nat_cmp) codes (λ code. f code +ℤ cond (is_settled o) (gain code o) (pos 0)) m
not_settled codes f m o h holds =
    let not : is_settled o ≡ false = settled_or_not o h in
    totals_same (slice_cmp nat_cmp) codes f (λ code. f code +ℤ cond (is_settled o) (gain code o) (pos 0)) m
    (λ q. rw not (omega (arith, ints))) holds

pub order_counted : (codes : List (List ℕ)) (f : List ℕ → ℤ) (m n : BTreeMap (List ℕ) ℤ) (o : Order)
    → is_waiting o ≡ true → Totals (slice_cmp nat_cmp) codes f m → Adds (slice_cmp nat_cmp) m o.sender (pos 1) n
    → Totals (slice_cmp nat_cmp) codes (λ code. f code +ℤ cond (is_waiting o && bytes_eq o.sender code) (pos 1) (pos 0))
    n
order_counted codes f m n o waits h adds = rw waits
    (texts_added codes f m n o.sender (pos 1) (pos 1) refl h adds)

-- one element of those of which the fact holds
pub int_sum_more : {X : Type 0} (g : X → ℤ) (xs : List X) (i : ℕ) (x : X) → i < length xs → x ≡ get_or xs i x
    → int_sum_by g (take (i + 1) xs) ≡ int_sum_by g (take i xs) +ℤ g x
int_sum_more g xs i x less is =
    ap (int_sum_by g) (take_more xs i x less ∙ ap (λ y. take i xs ++ y ∷ []) (sym is))
    ∙ int_sum_by-append g (take i xs) (x ∷ []) ∙ (let z : g x +ℤ pos 0 ≡ g x = omega (arith, ints)
    in ap (λ y. int_sum_by g (take i xs) +ℤ y) z)

same_as_itself : (code : List ℕ) → eq_by_cmp (slice_cmp nat_cmp) code code ≡ true
same_as_itself code = sym (texts_ties code code) ∙ (bytes_decides code code).1 refl

or_true : (b : Bool) → (b || true) ≡ true
or_true true = refl
or_true false = refl

-- each participant's code is one of the codes
pub codes_have : {X : Type 0} (code : X → List ℕ) (xs : List X) (i : ℕ) (x : X) → i < length xs → x ≡ get_or xs i x
    → is_member (eq_by_cmp (slice_cmp nat_cmp)) (map code xs) (code x) ≡ true
codes_have code xs i x less is = at xs i less is
  where
    at : (ys : List _) (k : ℕ) → k < length ys → x ≡ get_or ys k x
        → is_member (eq_by_cmp (slice_cmp nat_cmp)) (map code ys) (code x) ≡ true
    at [] k less is = absurd (omega arith)
    at (y ∷ ys) zero less is = rw (ap code (sym is)) (rw (same_as_itself (code x)) refl)
    at (y ∷ ys) (suc k) less is = rw (at ys k (omega arith) is)
        (or_true (eq_by_cmp (slice_cmp nat_cmp) (code x) (code y)))

pub total_of : (codes : List (List ℕ)) (f : List ℕ → ℤ) (m : BTreeMap (List ℕ) ℤ) (code : List ℕ)
    → Totals (slice_cmp nat_cmp) codes f m → is_member (eq_by_cmp (slice_cmp nat_cmp)) codes code ≡ true
    → get (slice_cmp nat_cmp) m code ≡ Some (f code)
total_of codes f m code h e = h code ∙ ap (λ b. cond b (Some (f code)) None) e
