-- What tallies tell of a book's marks.
use Rattle.std.proofs.Common.{◌≡◌, ◌≢◌, ℕ, zero, suc, ◌+◌, ◌<◌, ◌≤◌, ℤ, pos, ◌+ℤ◌, Bool, true, false, ◌&&◌, ◌==◌, List}
use Rattle.std.proofs.Common.{[], ◌∷◌, ◌++◌, cond, get_or, map, length, ◌↔◌, sym, ap, subst, ◌∙◌, refl, eq-eqb, arith}
use Rattle.std.proofs.lemmas.Int.{ints}
use Rattle.std.proofs.lemmas.Bool.{ne_eqb}
use Rattle.std.proofs.lemmas.List.{length-map, get_or-map}
use Rattle.std.proofs.lemmas.List.FromFn.{get_or-range_with_len}
use Rattle.std.proofs.Math.Bool.{or-false}
use Rattle.std.specs.List.{AllByRecursion, list_any, range_with_len}
use Rattle.rtgs_book.specs.declared.book.Book.{Book}
use Rattle.rtgs_book.specs.declared.order.Order.{Order}
use Rattle.rtgs_book.specs.declared.order_state.OrderState.{OrderState}
use Rattle.rtgs_book.specs.declared.mark.Mark.{Mark}
use Rattle.rtgs_book.specs.declared.order_state.OrderState.TheVariants.{Queued, Held, Settled, Withdrawn, Rejected}
use Rattle.rtgs_book.specs.Soundness.{AreNumbered, HasMark, is_state_under, orders_under, CountsItsOrders}
use Rattle.rtgs_book.specs.Soundness.{MarksFitOrders}
use Rattle.rtgs_soundness.specs.declared.rules.mark_tally.MarkTally.{MarkTally}
use Rattle.rtgs_soundness.specs.Tallies.{AreTallies, IsCounted, IsTallyWithin, tally_at, tally_of_mark, with_amount}
use Rattle.rtgs_money.specs.declared.amount.TheConstants.Amount as Amount
use Rattle.rtgs_soundness.proofs.Totals.{count_is_sum, amounts_are_sum, sum_pushed}
use Rattle.rtgs_lists.proofs.Lists.{all_weaker}

-- the numbers of the marks go on from the first
abbrev pub CountFrom : ℕ → List Mark → Type 0
CountFrom first marks = map (λ (m : Mark). m.number) marks ≡ range_with_len first (length marks)

pub counts : (marks : List Mark) → AreNumbered (map (λ (m : Mark). m.number) marks) → CountFrom 1 marks
counts marks h = h.0 ∙ ap (range_with_len 1) (length-map marks (λ (m : Mark). m.number))

first_is : (first : ℕ) (m : Mark) (marks : List Mark) → CountFrom first (m ∷ marks) → m.number ≡ first
first_is first m marks e = cc

rest_count : (first : ℕ) (m : Mark) (marks : List Mark) → CountFrom first (m ∷ marks) → CountFrom (first + 1) marks
rest_count first m marks e = cc

-- no mark has a number outside
pub none_dated : (first number date : ℕ) (marks : List Mark) → CountFrom first marks
    → ((k : ℕ) → k < length marks → number ≢ first + k)
    → list_any (λ (m : Mark). (m.number == number) && (m.date == date)) marks ≡ false
none_dated first number date [] e outside = refl
none_dated first number date (m ∷ marks) e outside =
    let this : m.number ≢ number = λ f. outside 0 (omega arith) (let g = first_is first m marks e in omega arith) in
    let rest : list_any (λ (m : Mark). (m.number == number) && (m.date == date)) marks
    ≡ false = none_dated (first + 1) number date marks (rest_count first m marks e)
    (λ k within f. outside (suc k) (omega arith) (omega arith)) in
    rw (ne_eqb m.number number this, rest) refl

-- the mark with a number stands at its place
pub one_dated : (first k date : ℕ) (d : Mark) (marks : List Mark) → CountFrom first marks → k < length marks
    → list_any (λ (m : Mark). (m.number == first + k) && (m.date == date)) marks ≡ ((get_or marks k d).date == date)
one_dated first k date d [] e within = absurd (omega arith)
one_dated first zero date d (m ∷ marks) e within =
    let this : m.number ≡ first + 0 = let g = first_is first m marks e in omega arith in
    let rest : list_any (λ (m : Mark). (m.number == first + 0) && (m.date == date)) marks
    ≡ false = none_dated (first + 1) (first + 0) date marks (rest_count first m marks e)
    (λ k within f. absurd (omega arith)) in
    rw (eq-eqb m.number (first + 0) this, rest) (or-false (m.date == date))
one_dated first (suc k) date d (m ∷ marks) e within =
    let this : m.number ≢ first + suc k = λ f. let g = first_is first m marks e in omega arith in
    let same : (first + 1) + k ≡ first + suc k = omega arith in
    let rest : list_any (λ (m : Mark). (m.number == first + suc k) && (m.date == date)) marks
    ≡ ((get_or marks k d).date == date) =
    subst (λ n. list_any (λ (m : Mark). (m.number == n) && (m.date == date)) marks ≡ ((get_or marks k d).date == date))
    same (one_dated (first + 1) k date d marks (rest_count first m marks e) (omega arith)) in
    rw (ne_eqb m.number (first + suc k) this) rest

pub needs_none : (marks : List Mark) (date : ℕ) (s : OrderState) → ((mark : ℕ) → s ≡ Settled mark → ⊥)
    → HasMark marks date s
needs_none marks date Queued h = tt
needs_none marks date Held h = tt
needs_none marks date (Settled mark) h = absurd (h mark refl)
needs_none marks date Withdrawn h = tt
needs_none marks date Rejected h = tt

-- the number of the mark at a place
number_at : (marks : List Mark) (k : ℕ) (d : Mark) → AreNumbered (map (λ (m : Mark). m.number) marks)
    → k < length marks → (get_or marks k d).number ≡ k + 1
number_at marks k d h within =
    sym (get_or-map (λ (m : Mark). m.number) marks k d d.number within)
    ∙ ap (λ ns. get_or ns k d.number) (counts marks h) ∙ get_or-range_with_len 1 (length marks) k d.number within
    ∙ (let e : 1 + k ≡ k + 1 = omega arith in e)

-- ---- tallies

same_sum : (a b : ℤ) → a ≡ b +ℤ pos 0 → a ≡ b
same_sum a b e = omega (arith, ints)

-- one order more at the end
pub tally_pushed : (orders : List Order) (o : Order) (mark : ℕ) → tally_of_mark (orders ++ o ∷ []) mark
    ≡ cond (is_state_under mark o.state) (with_amount o.amount (tally_of_mark orders mark)) (tally_of_mark orders mark)
tally_pushed orders o mark = whole (is_state_under mark o.state)
    (sum_pushed (λ (o : Order). is_state_under mark o.state) (λ (o : Order). pos 1) orders o)
    (sum_pushed (λ (o : Order). is_state_under mark o.state) (λ (o : Order). pos o.amount) orders o)
  where
    whole : (b : Bool) → (tally_of_mark (orders ++ o ∷ []) mark).count ≡ (tally_of_mark orders mark).count
        +ℤ cond b (pos 1) (pos 0) → (tally_of_mark (orders ++ o ∷ []) mark).value ≡ (tally_of_mark orders mark).value
        +ℤ cond b (pos o.amount) (pos 0) → tally_of_mark (orders ++ o ∷ []) mark
        ≡ cond b (with_amount o.amount (tally_of_mark orders mark)) (tally_of_mark orders mark)
    whole true e f = λ i. record { count = e i; value = f i }
    whole false e f = λ i. record {
      count = same_sum (tally_of_mark (orders ++ o ∷ []) mark).count (tally_of_mark orders mark).count e i;
      value = same_sum (tally_of_mark (orders ++ o ∷ []) mark).value (tally_of_mark orders mark).value f i;
    }

under_none : (mark : ℕ) (s : OrderState) → ((k : ℕ) → s ≡ Settled k → ⊥) → is_state_under mark s ≡ false
under_none mark Queued h = refl
under_none mark Held h = refl
under_none mark (Settled k) h = absurd (h k refl)
under_none mark Withdrawn h = refl
under_none mark Rejected h = refl

-- an order that is not settled
pub tally_kept : (orders : List Order) (o : Order) (mark : ℕ) → ((k : ℕ) → o.state ≡ Settled k → ⊥)
    → tally_of_mark (orders ++ o ∷ []) mark ≡ tally_of_mark orders mark
tally_kept orders o mark h = tally_pushed orders o mark
    ∙ ap (λ b. cond b (with_amount o.amount (tally_of_mark orders mark)) (tally_of_mark orders mark)) (under_none mark
    o.state h)

-- each bound is the larger by one amount
pub within_wider : (bound : ℕ) (tally : MarkTally) → IsTallyWithin bound tally
    → IsTallyWithin (bound + Amount.MAX) tally
within_wider bound tally h =
    let a = h.0.0 in let b = h.0.1 in let c = h.1.0 in let d = h.1.1 in
    ((omega (arith, ints), omega (arith, ints)), (omega (arith, ints), omega (arith, ints)))

pub within_more : (bound amount : ℕ) (tally : MarkTally) → amount ≤ Amount.MAX → IsTallyWithin bound tally
    → IsTallyWithin (bound + Amount.MAX) (with_amount amount tally)
within_more bound amount tally few h =
    let a = h.0.0 in let b = h.0.1 in let c = h.1.0 in let d = h.1.1 in
    ((omega (arith, ints), omega (arith, ints)), (omega (arith, ints), omega (arith, ints)))

-- the tally at a mark's place is of its orders
pub tally_here : (orders : List Order) (tallies : List MarkTally) (marks : List Mark) (place : ℕ) (m : Mark)
    → AreNumbered (map (λ (m : Mark). m.number) marks) → length tallies ≡ length marks → place < length marks
    → m ≡ get_or marks place m → AreTallies orders tallies → tally_at tallies place ≡ tally_of_mark orders m.number
tally_here orders tallies marks place m numbered same within is are =
    are place (omega arith) ∙ ap (tally_of_mark orders) (sym (ap (λ (m : Mark). m.number) is
    ∙ number_at marks place m numbered within))

same_count : (m n : ℕ) → pos m ≡ pos n → m ≡ n
same_count m n e = omega (arith, ints)

-- what the comparison of marks with tallies says of the book
pub tallies_of : (book : Book) (b : Bool) → AllByRecursion (λ (o : Order). HasMark book.marks o.date o.state)
    book.orders → (b ≡ true) ↔ AllByRecursion (λ (m : Mark). IsCounted m (tally_of_mark book.orders m.number))
    book.marks
    → (b ≡ true) ↔ MarksFitOrders book
tallies_of book b orders judged = (
  λ e. (
    orders,
    all_weaker (λ (m : Mark). IsCounted m (tally_of_mark book.orders m.number)) (CountsItsOrders book)
        (λ m k. record {
          some = k.some;
          count = same_count _ _ (k.count ∙ count_is_sum (orders_under book m.number));
          value = k.value ∙ amounts_are_sum (λ (o : Order). o.amount) (orders_under book m.number);
        }) book.marks (judged.0 e),
  ),
  λ fit. judged.1 (all_weaker (CountsItsOrders book) (λ (m : Mark). IsCounted m (tally_of_mark book.orders m.number))
      (λ m k. record {
        some = k.some;
        count = ap pos k.count ∙ sym (count_is_sum (orders_under book m.number));
        value = k.value ∙ sym (amounts_are_sum (λ (o : Order). o.amount) (orders_under book m.number));
      }) book.marks fit.1),
)
