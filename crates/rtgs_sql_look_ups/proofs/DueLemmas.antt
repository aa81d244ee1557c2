-- Orders and their due dates, which a look finds in another table.
use Rattle.std.proofs.Common.{◌≡◌, ◌≢◌, inl, inr, ℕ, ◌<◌, ◌==◌, Bool, false, List, [], ◌∷◌, ◌++◌, map, Option}
use Rattle.std.proofs.Common.{Some, None, option_map, is_some, eqb-true, eq-eqb, true≢false, refl, sym, ap, subst}
use Rattle.std.proofs.Common.{◌∙◌, arith}
use Rattle.std.specs.List.{AllByRecursion, find}
use Rattle.std.proofs.lemmas.Bool.{cases_Bool}
use Rattle.rtgs_book.specs.Books.{is_held}
use Rattle.rtgs_book.specs.Settle.{today}
use Rattle.rtgs_book.specs.Soundness.{FitsDue, IsSound}
use Rattle.rtgs_book.specs.declared.book.Book.{Book}
use Rattle.rtgs_book.specs.declared.limits.TheConstants.{LARGEST_NUMBER}
use Rattle.rtgs_book.specs.declared.order.Order.{Order}
use Rattle.rtgs_book.specs.cores.Nexts.{AreNumberedInOrder}
use Rattle.rtgs_lists.proofs.Finds.{all_found}
use Rattle.rtgs_rows.specs.Dues.{without_due, forward_for, forwards_of}
use Rattle.rtgs_rows.specs.Fitting.{FitsDate, FitsUndated, FitsOrder, FitsForward}
use Rattle.rtgs_rows.specs.Rows.{shown_order}
use Rattle.rtgs_rows.specs.declared.forward.Forward.{Forward}
use Rattle.rtgs_sql_look_ups.specs.Finding.{one_of, due_under}

-- ---- of the row of an order

-- it shows what it shows of the order without its due date
pub shown_plain : (o : Option Order) → map shown_order (one_of (option_map without_due o)) ≡ map shown_order (one_of o)
shown_plain None = refl
shown_plain (Some o) = refl

pub plain_fits : (o : Option Order) → AllByRecursion FitsOrder (one_of o)
    → AllByRecursion (λ (p : Order). FitsUndated p × (p.due ≡ None)) (one_of (option_map without_due o))
plain_fits None fits = tt
plain_fits (Some o) fits =
    let it = fits.0.undated in (
      (
        record {
          sender = it.sender;
          reference = it.reference;
          receiver = it.receiver;
          amount = it.amount;
          date = it.date;
        },
        refl,
      ),
      tt,
    )

-- ---- of the rows of due dates

pub forwards_fit : (os : List Order) → AllByRecursion FitsOrder os → AllByRecursion FitsForward (forwards_of os)
forwards_fit [] fits = tt
forwards_fit (o ∷ os) fits = by o.due fits.0.due (forwards_fit os fits.1)
  where
    by : (due : Option ℕ) → FitsDate due → AllByRecursion FitsForward (forwards_of os)
        → AllByRecursion FitsForward (forward_for o.number due ++ forwards_of os)
    by None fit rest = rest
    by (Some due) fit rest = (record { due = fit }, rest)

differ : (m n : ℕ) → m ≢ n → (m == n) ≡ false
differ m n other = elim (cases_Bool (m == n)) [
  | inl same ↦ absurd (other (eqb-true m n same))
  | inr apart ↦ apart
]

-- that of another order is passed over
passed : (number : ℕ) (o : Order) (fs : List Forward) → (o.number == number) ≡ false
    → due_under number (forward_for o.number o.due ++ fs) ≡ due_under number fs
passed number o fs other = by o.due
  where
    by : (due : Option ℕ) → due_under number (forward_for o.number due ++ fs) ≡ due_under number fs
    by None = refl
    by (Some due) = rw other refl

-- orders above a number have none under it
none_under : (number : ℕ) (os : List Order) → AllByRecursion (λ (o : Order). number < o.number) os
    → due_under number (forwards_of os) ≡ None
none_under number [] above = refl
none_under number (o ∷ os) above =
    passed number o (forwards_of os) (differ o.number number (λ same. let low = above.0 in omega (arith, low, same)))
    ∙ none_under number os above.1

-- so has a number above the greatest
pub none_under_past : (number : ℕ) (os : List Order) → LARGEST_NUMBER < number
    → AreNumberedInOrder (λ (it : Order). it.number) os → due_under number (forwards_of os) ≡ None
none_under_past number [] past numbers = refl
none_under_past number (o ∷ os) past numbers =
    passed number o (forwards_of os) (differ o.number number (λ same. let least = numbers.0 in
    omega (arith, least, past, same)))
    ∙ none_under_past number os past numbers.2

-- an order's own comes first
own : (o : Order) (os : List Order) → AllByRecursion (λ (other : Order). o.number < other.number) os
    → due_under o.number (forwards_of (o ∷ os)) ≡ o.due
own o os above = by o.due
  where
    by : (due : Option ℕ) → due_under o.number (forward_for o.number due ++ forwards_of os) ≡ due
    by None = none_under o.number os above
    by (Some due) = rw (eq-eqb o.number o.number refl) refl

found_above : (is_it : Order → Bool) (number : ℕ) (os : List Order) (o : Order)
    → AllByRecursion (λ (other : Order). number < other.number) os → find is_it os ≡ Some o → number < o.number
found_above is_it number [] o above e = absurd (let clash : ◌≡◌ {A = Option Order} None (Some o) = e in cc)
found_above is_it number (x ∷ os) o above e = elim (cases_Bool (is_it x)) [
  | inl here ↦
      let is : ◌≡◌ {A = Option Order} (Some x) (Some o) = rw here at e in
      let same : x ≡ o = cc in
      subst (λ (it : Order). number < it.number) same above.0
  | inr other ↦ found_above is_it number os o above.1 (rw other at e)
]

-- under the number of an order that is found stands its due date
pub due_of_found : (is_it : Order → Bool) (os : List Order) (o : Order)
    → AreNumberedInOrder (λ (it : Order). it.number) os → find is_it os ≡ Some o
    → due_under o.number (forwards_of os) ≡ o.due
due_of_found is_it [] o numbers e = absurd (let clash : ◌≡◌ {A = Option Order} None (Some o) = e in cc)
due_of_found is_it (x ∷ os) o numbers e = elim (cases_Bool (is_it x)) [
  | inl here ↦
      let is : ◌≡◌ {A = Option Order} (Some x) (Some o) = rw here at e in
      let same : x ≡ o = cc in
      subst (λ (it : Order). due_under it.number (forwards_of (x ∷ os)) ≡ it.due) same (own x os numbers.1)
  | inr other ↦
      let later : find is_it os ≡ Some o = rw other at e in
      let above = found_above is_it x.number os o numbers.1 later in
      passed o.number x (forwards_of os) (differ x.number o.number (λ same. omega (arith, above, same)))
      ∙ due_of_found is_it os o numbers.2 later
]

-- an order is what it is without its due date, and that date
pub joined : (is_it : Order → Bool) (os : List Order) → AreNumberedInOrder (λ (it : Order). it.number) os
    → (undated : Order) (due : Option ℕ) → Some undated ≡ option_map without_due (find is_it os)
    → due ≡ due_under undated.number (forwards_of os)
    → ◌≡◌ {A = Option Order} (Some (record undated { due = due })) (find is_it os)
joined is_it os numbers undated due same is = at (find is_it os) refl same
  where
    at : (found : Option Order) → find is_it os ≡ found
        → ◌≡◌ {A = Option Order} (Some undated) (option_map without_due found)
        → ◌≡◌ {A = Option Order} (Some (record undated { due = due })) found
    at None e plain = absurd cc
    at (Some o) e plain =
        let one : undated ≡ without_due o = cc in
        let number : undated.number ≡ o.number = ap (λ (it : Order). it.number) one in
        let own_due : due ≡ o.due = is ∙ ap (λ n. due_under n (forwards_of os)) number
        ∙ due_of_found is_it os o numbers e in
        λ i. Some (record (one i) { due = own_due i })

-- an order that is found in a sound book is not held without a due date
pub not_held : (is_it : Order → Bool) (book : Book) → IsSound book → (o : Order)
    → ◌≡◌ {A = Option Order} (Some o) (find is_it book.orders) → is_some o.due ≡ false → is_held o ≡ false
not_held is_it book sound o same = by o.due
    (all_found (λ (it : Order). FitsDue (today book) it.due it.date it.state) is_it book.orders o sound.dates.dues
    (sym same))
  where
    by : (due : Option ℕ) → FitsDue (today book) due o.date o.state → is_some due ≡ false → is_held o ≡ false
    by None fits none = fits
    by (Some due) fits none = absurd (true≢false none)
