-- A batch of queued orders that is settled: its orders, its mark, and the balances.
use Rattle.std.proofs.Common.{◌≡◌, ℕ, zero, suc, ◌≤◌, ◌<◌, ◌+◌, ◌==◌, Bool, true, false, cond, ◌&&◌, ◌||◌, List, []}
use Rattle.std.proofs.Common.{◌∷◌, ◌++◌, map, filter, length, sum_by, refl, sym, ap, ◌∙◌, true≢false, zero-add, arith}
use Rattle.std.proofs.lemmas.Bool.Decides.{nat_tests}
use Rattle.std.proofs.lemmas.List.Sums.{sum_by-cons}
use Rattle.std.specs.List.{AllByRecursion, list_any, range_with_len}
use Rattle.rtgs_book.specs.declared.book.Book.{Book}
use Rattle.rtgs_book.specs.declared.mark.Mark.{Mark}
use Rattle.rtgs_book.specs.declared.order.Order.{Order}
use Rattle.rtgs_book.specs.declared.order_state.OrderState.{OrderState}
use Rattle.rtgs_book.specs.declared.order_state.OrderState.TheVariants.{Queued, Held, Settled, Withdrawn, Rejected}
use Rattle.rtgs_book.specs.Books.{is_queued}
use Rattle.rtgs_book.specs.Settle.{in_state, restated}
use Rattle.rtgs_book.specs.Soundness.{AreNumbered, HasMark, is_state_under, CountsItsOrders}
use Rattle.rtgs_laws.proofs.States.{queued_not_under}
use Rattle.rtgs_lists.proofs.Numbers.{eq_self}

pub all_from_filter : {X : Type 0} (P : X → Type 0) (p : X → Bool) (xs : List X) → AllByRecursion P (filter p xs)
    → AllByRecursion (λ x. p x ≡ true → P x) xs
all_from_filter P p [] h = tt
all_from_filter P p (x ∷ xs) h = by (p x) refl h (all_from_filter P p xs)
  where
    by : (b : Bool) → p x ≡ b → AllByRecursion P (cond b (x ∷ filter p xs) (filter p xs))
        → (AllByRecursion P (filter p xs) → AllByRecursion (λ x. p x ≡ true → P x) xs)
        → AllByRecursion (λ x. p x ≡ true → P x) (x ∷ xs)
    by true e k rest = ((λ _. k.0), rest k.1)
    by false e k rest = ((λ t. absurd (true≢false (sym t ∙ e))), rest k)

-- ---- the orders under the new mark

-- an order that has a mark among these is under none but those
not_under_next : (ms : List Mark) (next date : ℕ) (s : OrderState) → AllByRecursion (λ (m : Mark). m.number < next) ms
    → HasMark ms date s → is_state_under next s ≡ false
not_under_next ms next date Queued below h = refl
not_under_next ms next date Held below h = refl
not_under_next ms next date Withdrawn below h = refl
not_under_next ms next date Rejected below h = refl
not_under_next ms next date (Settled k) below h = by ms below h
  where
    by : (ms : List Mark) → AllByRecursion (λ (m : Mark). m.number < next) ms
        → list_any (λ (m : Mark). (m.number == k) && (m.date == date)) ms ≡ true → (k == next) ≡ false
    by [] b t = absurd (true≢false (sym t))
    by (m ∷ ms) b t = at (m.number == k) refl t (by ms b.1)
      where
        at : (same : Bool) → (m.number == k) ≡ same → ((same && (m.date == date)) || list_any
            (λ (m : Mark). (m.number == k) && (m.date == date)) ms) ≡ true
            → (list_any (λ (m : Mark). (m.number == k) && (m.date == date)) ms ≡ true → (k == next) ≡ false)
            → (k == next) ≡ false
        at true e u rest = let less = b.0 in grind (arith, nat_tests)
        at false e u rest = rest u

pub none_under_next : (ms : List Mark) (next : ℕ) (os : List Order) → AllByRecursion (λ (m : Mark). m.number < next) ms
    → AllByRecursion (λ (o : Order). HasMark ms o.date o.state) os
    → AllByRecursion (λ (o : Order). is_state_under next o.state ≡ false) os
none_under_next ms next [] below h = tt
none_under_next ms next (o ∷ os) below h = (
  not_under_next ms next o.date o.state below h.0,
  none_under_next ms next os
      below h.1,
)

-- the orders under a new mark are the batch
pub under_new : (next : ℕ) (is_in : Order → Bool) (os : List Order)
    → AllByRecursion (λ (o : Order). is_state_under next o.state ≡ false) os
    → filter (λ (o : Order). is_state_under next o.state) (map (restated is_in (Settled next)) os)
    ≡ map (in_state (Settled next)) (filter is_in os)
under_new next is_in [] h = refl
under_new next is_in (o ∷ os) h = by (is_in o) (under_new next is_in os h.1)
  where
    by : (b : Bool) → filter (λ (o : Order). is_state_under next o.state) (map (restated is_in (Settled next)) os)
        ≡ map (in_state (Settled next)) (filter is_in os)
        → cond (is_state_under next (cond b (in_state (Settled next) o) o).state)
        (cond b (in_state (Settled next) o) o ∷ filter (λ (o : Order). is_state_under next o.state)
        (map (restated is_in (Settled next)) os)) (filter (λ (o : Order). is_state_under next o.state)
        (map (restated is_in (Settled next)) os))
        ≡ map (in_state (Settled next)) (cond b (o ∷ filter is_in os) (filter is_in os))
    by true rest = rw (eq_self next, rest) refl
    by false rest = rw (h.0, rest) refl

pub amounts_restated : (next : ℕ) (os : List Order) → sum_by (λ (o : Order). o.amount)
    (map (in_state (Settled next)) os) ≡ sum_by (λ (o : Order). o.amount) os
amounts_restated next [] = refl
amounts_restated next (o ∷ os) =
    sum_by-cons (λ (o : Order). o.amount) (in_state (Settled next) o)
    (map (in_state (Settled next)) os)
    ∙ ap (λ n. o.amount + n) (amounts_restated next os)
    ∙ sym (sum_by-cons (λ (o : Order). o.amount) o os)

-- ---- each settled order has its mark still

pub list_any_left : {X : Type 0} (p : X → Bool) (xs ys : List X) → list_any p xs ≡ true → list_any p (xs ++ ys) ≡ true
list_any_left p [] ys e = absurd (true≢false (sym e))
list_any_left p (x ∷ xs) ys e = by (p x) e (list_any_left p xs ys)
  where
    by : (b : Bool) → (b || list_any p xs) ≡ true → (list_any p xs ≡ true → list_any p (xs ++ ys) ≡ true)
        → (b || list_any p (xs ++ ys)) ≡ true
    by true t rest = refl
    by false t rest = rest t

list_any_last : {X : Type 0} (p : X → Bool) (xs : List X) (x : X) → p x ≡ true → list_any p (xs ++ x ∷ []) ≡ true
list_any_last p [] x e = rw e refl
list_any_last p (y ∷ ys) x e = by (p y) (list_any_last p ys x e)
  where
    by : (b : Bool) → list_any p (ys ++ x ∷ []) ≡ true → (b || list_any p (ys ++ x ∷ [])) ≡ true
    by true r = refl
    by false r = r

mark_stays : (ms : List Mark) (m : Mark) (date : ℕ) (s : OrderState) → HasMark ms date s → HasMark (ms ++ m ∷ []) date s
mark_stays ms m date Queued h = tt
mark_stays ms m date Held h = tt
mark_stays ms m date Withdrawn h = tt
mark_stays ms m date Rejected h = tt
mark_stays ms m date (Settled k) h = list_any_left _ ms (m ∷ []) h

new_mark_found : (m : Mark) (date : ℕ) → date ≡ m.date → ((m.number == m.number) && (m.date == date)) ≡ true
new_mark_found m date e = rw (e, eq_self m.number, eq_self m.date) refl

pub marks_settled : (ms : List Mark) (m : Mark) (is_in : Order → Bool) (os : List Order)
    → AllByRecursion (λ (o : Order). HasMark ms o.date o.state) os
    → AllByRecursion (λ o. is_in o ≡ true → o.date ≡ m.date) os
    → AllByRecursion (λ (o : Order). HasMark (ms ++ m ∷ []) o.date o.state) (map (restated is_in (Settled m.number)) os)
marks_settled ms m is_in [] h d = tt
marks_settled ms m is_in (o ∷ os) h d = (by (is_in o) refl, marks_settled ms m is_in os h.1 d.1)
  where
    by : (b : Bool) → is_in o ≡ b → HasMark (ms ++ m ∷ []) (cond b (in_state (Settled m.number) o) o).date
        (cond b (in_state (Settled m.number) o) o).state
    by true e = list_any_last (λ (k : Mark). (k.number == m.number) && (k.date == o.date)) ms m
        (new_mark_found m o.date (d.0 e))
    by false e = mark_stays ms m o.date o.state h.0

-- ---- there are no more marks than settled orders

abbrev one_if : Bool → ℕ
one_if b = cond b 1 0

-- how many of the numbers an order is under
hits : List ℕ → OrderState → ℕ
hits numbers s = sum_by (λ n. cond (is_state_under n s) 1 0) numbers

-- how many orders are under the numbers
under_all : List ℕ → List Order → ℕ
under_all numbers os = sum_by (λ n. length (filter (λ (o : Order). is_state_under n o.state) os)) numbers

one_order : (o : Order) (os : List Order) (b : Bool) → length (cond b (o ∷ os) os) ≡ cond b 1 0 + length os
one_order o os true = omega arith
one_order o os false = omega arith

under_all-nil : (numbers : List ℕ) → under_all numbers [] ≡ 0
unfolding under_all
under_all-nil [] = refl
under_all-nil (n ∷ ns) = sum_by-cons (λ n. length (filter (λ (o : Order). is_state_under n o.state) [])) n ns
    ∙ zero-add _ ∙ under_all-nil ns

under_all-cons : (numbers : List ℕ) (o : Order) (os : List Order)
    → under_all numbers (o ∷ os) ≡ hits numbers o.state + under_all numbers os
unfolding under_all hits
under_all-cons [] o os = refl
under_all-cons (n ∷ ns) o os =
    let rest = under_all-cons ns o os in
    let a = sum_by-cons (λ n. length (filter (λ (o : Order). is_state_under n o.state) (o ∷ os))) n ns in
    let b = sum_by-cons (λ n. length (filter (λ (o : Order). is_state_under n o.state) os)) n ns in
    let c = sum_by-cons (λ n. cond (is_state_under n o.state) 1 0) n ns in
    let d = one_order o (filter (λ (o : Order). is_state_under n o.state) os) (is_state_under n o.state) in
    omega arith

hits_none : (numbers : List ℕ) (s : OrderState) → ((n : ℕ) → is_state_under n s ≡ false) → hits numbers s ≡ 0
unfolding hits
hits_none [] s none = refl
hits_none (n ∷ ns) s none =
    let rest = hits_none ns s none in
    let a = sum_by-cons (λ n. cond (is_state_under n s) 1 0) n ns in
    let here : one_if (is_state_under n s) ≡ 0 = rw (none n) refl in
    omega arith

hits_later : (first count k : ℕ) → k < first → hits (range_with_len first count) (Settled k) ≡ 0
unfolding hits
hits_later first zero k less = refl
hits_later first (suc count) k less =
    let rest = hits_later (first + 1) count k (omega arith) in
    let a = sum_by-cons (λ n. cond (is_state_under n (Settled k)) 1 0) first (range_with_len (first + 1) count) in
    let here : (k == first) ≡ false = grind (arith, nat_tests) in
    let zero_here : one_if (k == first) ≡ 0 = rw here refl in
    omega arith

hits_settled : (first count k : ℕ) → hits (range_with_len first count) (Settled k) ≤ 1
unfolding hits
hits_settled first zero k = omega arith
hits_settled first (suc count) k = by (k == first) refl (hits_settled (first + 1) count k)
    (sum_by-cons (λ n. cond (is_state_under n (Settled k)) 1 0) first (range_with_len (first + 1) count))
  where
    by : (b : Bool) → (k == first) ≡ b → hits (range_with_len (first + 1) count) (Settled k) ≤ 1
        → hits (range_with_len first (suc count)) (Settled k)
        ≡ one_if (k == first) + hits (range_with_len (first + 1) count) (Settled k)
        → hits (range_with_len first (suc count)) (Settled k) ≤ 1
    by true e rest a =
        let same : k ≡ first = grind (arith, nat_tests) in
        let none = hits_later (first + 1) count k (omega arith) in
        let one : one_if (k == first) ≡ 1 = rw e refl in
        omega arith
    by false e rest a = let zero_here : one_if (k == first) ≡ 0 = rw e refl in omega arith

hits_one : (first count : ℕ) (s : OrderState) → hits (range_with_len first count) s ≤ 1
hits_one first count Queued = let h = hits_none (range_with_len first count) Queued (λ n. refl) in omega arith
hits_one first count Held = let h = hits_none (range_with_len first count) Held (λ n. refl) in omega arith
hits_one first count Withdrawn = let h = hits_none (range_with_len first count) Withdrawn (λ n. refl) in omega arith
hits_one first count Rejected = let h = hits_none (range_with_len first count) Rejected (λ n. refl) in omega arith
hits_one first count (Settled k) = hits_settled first count k

marks_and_batch : (first count : ℕ) (is_in : Order → Bool) (os : List Order)
    → AllByRecursion (λ o. is_in o ≡ true → is_queued o ≡ true) os
    → under_all (range_with_len first count) os + length (filter is_in os) ≤ length os
marks_and_batch first count is_in [] h = let none = under_all-nil (range_with_len first count) in omega arith
marks_and_batch first count is_in (o ∷ os) h = by (is_in o) refl (marks_and_batch first count is_in os h.1)
  where
    by : (b : Bool) → is_in o ≡ b → under_all (range_with_len first count) os + length (filter is_in os) ≤ length os
        → under_all (range_with_len first count) (o ∷ os) + length (cond b (o ∷ filter is_in os) (filter is_in os))
        ≤ suc (length os)
    by true e rest =
        let a = under_all-cons (range_with_len first count) o os in
        let none = hits_none (range_with_len first count) o.state (λ n. queued_not_under n o.state (h.0 e)) in
        omega arith
    by false e rest =
        let a = under_all-cons (range_with_len first count) o os in
        let one = hits_one first count o.state in
        omega arith

-- each mark has an order
each_mark : (book : Book) (ms : List Mark) → AllByRecursion (CountsItsOrders book) ms
    → length ms ≤ under_all (map (λ (m : Mark). m.number) ms) book.orders
unfolding under_all
each_mark book [] h = omega arith
each_mark book (m ∷ ms) h =
    let rest = each_mark book ms h.1 in
    let a = sum_by-cons (λ n. length (filter (λ (o : Order). is_state_under n o.state) book.orders)) m.number
    (map (λ (m : Mark). m.number) ms) in
    let some = h.0.some in
    let count = h.0.count in
    omega arith

-- marks and the orders of a batch are together no more than the orders
pub marks_le : (book : Book) (is_in : Order → Bool) → AreNumbered (map (λ (m : Mark). m.number) book.marks)
    → AllByRecursion (CountsItsOrders book) book.marks → AllByRecursion (λ o. is_in o ≡ true → is_queued o ≡ true)
    book.orders → length book.marks + length (filter is_in book.orders) ≤ length book.orders
marks_le book is_in numbered counts queued =
    let each = each_mark book book.marks counts in
    let all = marks_and_batch 1 (length (map (λ (m : Mark). m.number) book.marks)) is_in book.orders queued in
    let same = ap (λ ns. under_all ns book.orders) numbered.0 in
    omega arith
