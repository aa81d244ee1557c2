-- Passing over orders that are not of a date.
use Rattle.std.proofs.Common.{◌≡◌, ◌≢◌, inl, inr, ℕ, ◌<◌, ◌≤◌, ◌==◌, true, false, not, nat_lt, List, [], ◌∷◌, ◌++◌}
use Rattle.std.proofs.Common.{map, filter, Option, Some, None, option_map, IfSome, is_some, refl, sym, ap, subst, ◌∙◌}
use Rattle.std.proofs.Common.{arith, eqb-true, eq-eqb, true≢false}
use Rattle.std.specs.Bool.{⊤}
use Rattle.std.specs.List.{AllByRecursion, find}
use Rattle.std.proofs.lemmas.Bool.{cases_Bool, ltb-true, lt-ltb}
use Rattle.rtgs_book.specs.Books.{has_due}
use Rattle.rtgs_book.specs.Soundness.{FitsDue, NeverFall}
use Rattle.rtgs_book.specs.declared.limits.TheConstants.{LARGEST_NUMBER}
use Rattle.rtgs_book.specs.declared.order.Order.{Order}
use Rattle.rtgs_book.specs.cores.Nexts.{AreNumberedInOrder, is_order_after}
use Rattle.rtgs_lists.proofs.Bools.{and_right_false}
use Rattle.rtgs_lists.proofs.Finds.{all_found}
use Rattle.rtgs_lists.proofs.Lists.{all_of, all_weaker, all_both}
use Rattle.rtgs_rows.specs.Dues.{forward_for, forwards_of, without_due}
use Rattle.rtgs_rows.specs.declared.forward.Forward.{Forward}
use Rattle.rtgs_sql_look_ups.specs.Seeking.{first_above}
use Rattle.rtgs_sql_look_ups.specs.Skipping.{first_order_above, first_due_above, Between, IsOff, IsPlainOff, IsDueOff}
use Rattle.rtgs_sql_look_ups.proofs.SeekingLemmas.{clash}

abbrev pub AreInOrder : List Order → Type 0
AreInOrder = AreNumberedInOrder (λ (o : Order). o.number)

same_some : {A : Type 0} (a b : A) → ◌≡◌ {A = Option A} (Some a) (Some b) → a ≡ b
same_some a b e = cc

-- ---- between numbers

pub none_between : (Q : Order → Type 0) (n : ℕ) (os : List Order) → Between Q n n os
none_between Q n os = all_of _ (λ o up low. absurd (omega (arith, up, low))) os

pub between_then : (Q : Order → Type 0) (low mid high : ℕ) (os : List Order) → Between Q low mid os
    → Between Q mid high os → Between Q low high os
between_then Q low mid high os =
    all_both (λ (o : Order). low < o.number → o.number ≤ mid → Q o)
    (λ (o : Order). mid < o.number → o.number ≤ high → Q o) (λ (o : Order). low < o.number → o.number ≤ high → Q o)
    by os
  where
    by : (o : Order) → (low < o.number → o.number ≤ mid → Q o) → (mid < o.number → o.number ≤ high → Q o)
        → low < o.number → o.number ≤ high → Q o
    by o one two up down = elim (cases_Bool (nat_lt mid o.number)) [
      | inl past ↦ two (ltb-true mid o.number past) down
      | inr not_past ↦ one up (within o.number mid (λ past. clash _ (lt-ltb mid o.number past) not_past))
    ]
      where
        within : (m n : ℕ) → ¬ (n < m) → m ≤ n
        within m n none = omega (arith, none)

pub between_weaker : (P Q : Order → Type 0) (low high : ℕ) (os : List Order) → ((o : Order) → P o → Q o)
    → Between P low high os → Between Q low high os
between_weaker P Q low high os f = all_weaker (λ (o : Order). low < o.number → o.number ≤ high → P o)
    (λ (o : Order). low < o.number → o.number ≤ high → Q o) (λ o one up down. f o (one up down)) os

pub between_from : (Q : Order → Type 0) (low from high : ℕ) (os : List Order) → low ≤ from → Between Q low high os
    → Between Q from high os
between_from Q low from high os le = all_weaker (λ (o : Order). low < o.number → o.number ≤ high → Q o)
    (λ (o : Order). from < o.number → o.number ≤ high → Q o) (λ o all up. all (omega (arith, le, up))) os

-- plain orders and those with due dates, so far as both go
pub both_off : (date at plain dues to : ℕ) (os : List Order) → (at < to → to ≤ plain) → (at < to → to ≤ dues)
    → Between (IsPlainOff date) at plain os → Between (IsDueOff date) at dues os → Between (IsOff date) at to os
both_off date at plain dues to os one two =
    all_both (λ (o : Order). at < o.number → o.number ≤ plain → IsPlainOff date o)
    (λ (o : Order). at < o.number → o.number ≤ dues → IsDueOff date o)
    (λ (o : Order). at < o.number → o.number ≤ to → IsOff date o) by os
  where
    by : (o : Order) → (at < o.number → o.number ≤ plain → IsPlainOff date o)
        → (at < o.number → o.number ≤ dues → IsDueOff date o) → at < o.number → o.number ≤ to → IsOff date o
    by o p d up down =
        let low = one (omega (arith, up, down)) in
        let least = two (omega (arith, up, down)) in
        elim (cases_Bool (has_due o)) [
          | inl due ↦ d up (omega (arith, down, least)) due
          | inr none ↦ p up (omega (arith, down, low)) none
        ]

-- ---- the first order above a number

pub none_above : (Q : Order → Type 0) (n high : ℕ) (os : List Order) → first_order_above n os ≡ None
    → Between Q n high os
none_above Q n high [] e = tt
none_above Q n high (x ∷ os) e = elim (cases_Bool (nat_lt n x.number)) [
  | inl up ↦ absurd (let is : ◌≡◌ {A = Option Order} (Some x) None = rw up at e in cc)
  | inr down ↦ ((λ up _. absurd (clash _ (lt-ltb n x.number up) down)), none_above Q n high os (rw down at e))
]

pub one_above : (Q : Order → Type 0) (n : ℕ) (os : List Order) (o : Order) → AreInOrder os
    → first_order_above n os ≡ Some o → Q o → Between Q n o.number os
one_above Q n [] o numbers e q = tt
one_above Q n (x ∷ os) o numbers e q = elim (cases_Bool (nat_lt n x.number)) [
  | inl up ↦
      let same : x ≡ o = same_some x o (rw up at e) in
      let number : x.number ≡ o.number = ap (λ (it : Order). it.number) same in (
        (λ _ _. subst Q (sym same) q),
        all_weaker (λ (y : Order). x.number < y.number) (λ (y : Order). n < y.number → y.number ≤ o.number → Q y)
            (λ y above _ low. absurd (omega (arith, above, low, number))) os numbers.1,
      )
  | inr down ↦ ((λ up _. absurd (clash _ (lt-ltb n x.number up) down)), one_above Q n os o numbers.2 (rw down at e) q)
]

-- a row of an order tells its number and its date
pub row_off : (date n : ℕ) (os : List Order) (row : Order) → AreInOrder os
    → Some row ≡ option_map without_due (first_order_above n os) → (row.date == date) ≡ false
    → Between (IsOff date) n row.number os
row_off date n os row numbers e off = at (first_order_above n os) refl e
  where
    at : (found : Option Order) → first_order_above n os ≡ found → Some row ≡ option_map without_due found
        → Between (IsOff date) n row.number os
    at None is e = absurd (let clash : ◌≡◌ {A = Option Order} (Some row) None = e in cc)
    at (Some o) is e =
        let same : row ≡ without_due o = same_some row (without_due o) e in
        let number : o.number ≡ row.number = sym (ap (λ (it : Order). it.number) same) in
        let day : row.date ≡ o.date = ap (λ (it : Order). it.date) same in
        subst (λ high. Between (IsOff date) n high os) number
        (one_above (IsOff date) n os o numbers is (λ on. clash _ (eq-eqb row.date date (day ∙ on)) off))

-- ---- the dates of plain orders

abbrev pub ArePlainInOrder : List Order → Type 0
ArePlainInOrder [] = ⊤
ArePlainInOrder (o ∷ os) = (has_due o ≡ false → AllByRecursion (λ (p : Order). has_due p ≡ false → o.date ≤ p.date) os)
    × ArePlainInOrder os

not_before : (date : ℕ) (os : List Order)
    → AllByRecursion (λ later. date ≤ later) (map (λ (o : Order). o.date) (filter (λ o. not (has_due o)) os))
    → AllByRecursion (λ (p : Order). has_due p ≡ false → date ≤ p.date) os
not_before date [] all = tt
not_before date (o ∷ os) all = elim (cases_Bool (has_due o)) [
  | inl due ↦ ((λ none. absurd (clash _ due none)), not_before date os (rw due at all))
  | inr none ↦ let here = rw none at all in ((λ _. here.0), not_before date os here.1)
]

pub plain_in_order : (last : ℕ) (os : List Order)
    → NeverFall last (map (λ (o : Order). o.date) (filter (λ o. not (has_due o)) os)) → ArePlainInOrder os
plain_in_order last [] never = tt
plain_in_order last (o ∷ os) never = elim (cases_Bool (has_due o)) [
  | inl due ↦ ((λ none. absurd (clash _ due none)), plain_in_order last os (rw due at never))
  | inr none ↦ let here = rw none at never in ((λ _. not_before o.date os here.0), plain_in_order last os here.2)
]

-- an early one tells that all before it are early
pub early_off : (date n : ℕ) (os : List Order) (o : Order) → AreInOrder os → ArePlainInOrder os
    → first_order_above n os ≡ Some o → has_due o ≡ false → o.date < date
    → Between (IsPlainOff date) 0 o.number os
early_off date n [] o numbers dates e plain low = tt
early_off date n (x ∷ os) o numbers dates e plain low = elim (cases_Bool (nat_lt n x.number)) [
  | inl up ↦
      let same : x ≡ o = same_some x o (rw up at e) in
      let number : x.number ≡ o.number = ap (λ (it : Order). it.number) same in
      let day : x.date ≡ o.date = ap (λ (it : Order). it.date) same in (
        (λ _ _ _ on. omega (arith, day, on, low)),
        all_weaker (λ (y : Order). x.number < y.number) (λ (y : Order). 0 < y.number → y.number ≤ o.number
            → IsPlainOff date y) (λ y above _ down. absurd (omega (arith, above, down, number))) os numbers.1,
      )
  | inr down ↦
      let later : first_order_above n os ≡ Some o = rw down at e in (
        (λ _ _ none on. let from : x.date ≤ o.date =
            all_found (λ (p : Order). has_due p ≡ false → x.date ≤ p.date) (λ (p : Order). nat_lt n p.number) os o
            (dates.0 none) later plain in omega (arith, from, on, low)),
        early_off date n os o numbers.2 dates.1 later plain low,
      )
]

pub strictly_later : (day date : ℕ) → date ≤ day → (day == date) ≡ false → date < day
strictly_later day date le off = omega (arith, le, apart (λ same. clash _ (eq-eqb day date same) off))
  where
    apart : ¬ (day ≡ date) → day ≢ date
    apart none = none

-- and a late one that all after it are late
pub late_off : (date n high : ℕ) (os : List Order) (o : Order) → ArePlainInOrder os
    → first_order_above n os ≡ Some o → has_due o ≡ false → date < o.date → Between (IsPlainOff date) n high os
late_off date n high [] o dates e plain late = tt
late_off date n high (x ∷ os) o dates e plain late = elim (cases_Bool (nat_lt n x.number)) [
  | inl up ↦
      let same : x ≡ o = same_some x o (rw up at e) in
      let day : x.date ≡ o.date = ap (λ (it : Order). it.date) same in
      let none : has_due x ≡ false = ap has_due same ∙ plain in (
        (λ _ _ _ on. omega (arith, day, on, late)),
        all_weaker (λ (p : Order). has_due p ≡ false → x.date ≤ p.date)
            (λ (p : Order). n < p.number → p.number ≤ high → IsPlainOff date p)
            (λ p from _ _ has on. let least = from has in omega (arith, least, day, on, late)) os (dates.0 none),
      )
  | inr down ↦ (
    (λ up _. absurd (clash _ (lt-ltb n x.number up) down)),
    late_off date n high os o dates.1 (rw down at e) plain late,
  )
]

-- ---- the first due date above a number

-- none is above the greatest of all numbers
pub no_due_past : (n : ℕ) (os : List Order) → LARGEST_NUMBER ≤ n → AreInOrder os → first_due_above n os ≡ None
no_due_past n [] le numbers = refl
no_due_past n (o ∷ os) le numbers = by o.due (no_due_past n os le numbers.2)
  where
    by : (due : Option ℕ) → first_due_above n os ≡ None
        → first_above (λ (f : Forward). f.number) n (forward_for o.number due ++ forwards_of os) ≡ None
    by None rest = rest
    by (Some due) rest = elim (cases_Bool (nat_lt n o.number)) [
      | inl up ↦ absurd (let above = ltb-true n o.number up in let least = numbers.0 in
          omega (arith, above, least, le))
      | inr down ↦ rw down rest
    ]

-- up to that number no order has one
pub no_due : (date n high : ℕ) (os : List Order) → AreInOrder os
    → IfSome (first_due_above n os) (λ (f : Forward). high < f.number) → Between (IsDueOff date) n high os
no_due date n high [] numbers past = tt
no_due date n high (o ∷ os) numbers past = by o.due refl past (no_due date n high os numbers.2)
  where
    by : (due : Option ℕ) → o.due ≡ due
        → IfSome (first_above (λ (f : Forward). f.number) n (forward_for o.number due ++ forwards_of os))
        (λ (f : Forward). high < f.number)
        → (IfSome (first_due_above n os) (λ (f : Forward). high < f.number) → Between (IsDueOff date) n high os)
        → Between (IsDueOff date) n high (o ∷ os)
    by None is past rest = ((λ _ _ has. absurd (true≢false (sym has ∙ ap is_some is))), rest past)
    by (Some due) is past rest = elim (cases_Bool (nat_lt n o.number)) [
      | inl up ↦
          let here : high < o.number = rw up at past in (
            (λ _ low. absurd (omega (arith, here, low))),
            all_weaker (λ (y : Order). o.number < y.number) (λ (y : Order). n < y.number → y.number ≤ high
                → IsDueOff date y) (λ y above _ low. absurd (omega (arith, here, above, low))) os numbers.1,
          )
      | inr down ↦ (
        (λ up _. absurd (clash _ (lt-ltb n o.number up) down)),
        rest (rw down at past),
      )
    ]

-- and its order is of no date before it
pub due_later : (today date n : ℕ) (os : List Order) (f : Forward) → AreInOrder os
    → AllByRecursion (λ (o : Order). FitsDue today o.due o.date o.state) os → first_due_above n os ≡ Some f
    → date < f.due → Between (IsDueOff date) n f.number os
due_later today date n [] f numbers fits e late = tt
due_later today date n (o ∷ os) f numbers fits e late =
    by o.due refl fits.0 e (λ later. due_later today date n os f numbers.2 fits.1 later late)
  where
    by : (due : Option ℕ) → o.due ≡ due → FitsDue today due o.date o.state
        → first_above (λ (f : Forward). f.number) n (forward_for o.number due ++ forwards_of os) ≡ Some f
        → (first_due_above n os ≡ Some f → Between (IsDueOff date) n f.number os)
        → Between (IsDueOff date) n f.number (o ∷ os)
    by None is fit e rest = ((λ _ _ has. absurd (true≢false (sym has ∙ ap is_some is))), rest e)
    by (Some due) is fit e rest = elim (cases_Bool (nat_lt n o.number)) [
      | inl up ↦
          let here : Forward = record { number = o.number; due = due } in
          let same : here ≡ f = same_some here f (rw up at e) in
          let number : o.number ≡ f.number = ap (λ (it : Forward). it.number) same in
          let day : due ≡ f.due = ap (λ (it : Forward). it.due) same in
          let from = fit.1 in (
            (λ _ _ _ on. omega (arith, day, from, on, late)),
            all_weaker (λ (y : Order). o.number < y.number) (λ (y : Order). n < y.number → y.number ≤ f.number
                → IsDueOff date y) (λ y above _ low. absurd (omega (arith, number, above, low))) os numbers.1,
          )
      | inr down ↦ (
        (λ up _. absurd (clash _ (lt-ltb n o.number up) down)),
        rest (rw down at e),
      )
    ]

-- ---- the next order of the date

-- where none is passed over
pub moved : (date low high : ℕ) (os : List Order) → low ≤ high → Between (IsOff date) low high os
    → find (is_order_after date high) os ≡ find (is_order_after date low) os
moved date low high [] le off = refl
moved date low high (o ∷ os) le off = elim (cases_Bool (o.date == date)) [
  | inr other ↦ rw other (moved date low high os le off.1)
  | inl on ↦ elim (cases_Bool (nat_lt high o.number)) [
    | inl past ↦
        let above = ltb-true high o.number past in
        rw (on, past, lt-ltb low o.number (omega (arith, le, above))) refl
    | inr not_past ↦
        let below : nat_lt low o.number ≡ false = still o.number
        (within o.number high (λ past. clash _ (lt-ltb high o.number past) not_past)) off.0
        (eqb-true o.date date on) in
        rw (on, not_past, below) (moved date low high os le off.1)
  ]
]
  where
    within : (m n : ℕ) → ¬ (n < m) → m ≤ n
    within m n none = omega (arith, none)

    still : (m : ℕ) → m ≤ high → (low < m → m ≤ high → o.date ≢ date) → o.date ≡ date → nat_lt low m ≡ false
    still m down is_off same = elim (cases_Bool (nat_lt low m)) [
      | inl up ↦ absurd (is_off (ltb-true low m up) down same)
      | inr below ↦ below
    ]

-- the first above the number, where it is of the date
pub found_at_once : (date n : ℕ) (os : List Order) (o : Order) → first_order_above n os ≡ Some o
    → (o.date == date) ≡ true → find (is_order_after date n) os ≡ Some o
found_at_once date n [] o e on = e
found_at_once date n (x ∷ os) o e on = elim (cases_Bool (nat_lt n x.number)) [
  | inl up ↦
      let same : x ≡ o = same_some x o (rw up at e) in
      let day : (x.date == date) ≡ true = ap (λ (it : Order). it.date == date) same ∙ on in
      rw (day, up) (ap Some same)
  | inr down ↦ rw (and_right_false (x.date == date) _ down) (found_at_once date n os o (rw down at e) on)
]

-- and none, where there is none above it
pub not_found : (date n : ℕ) (os : List Order) → first_order_above n os ≡ None
    → find (is_order_after date n) os ≡ None
not_found date n [] e = refl
not_found date n (x ∷ os) e = elim (cases_Bool (nat_lt n x.number)) [
  | inl up ↦ absurd (let is : ◌≡◌ {A = Option Order} (Some x) None = rw up at e in cc)
  | inr down ↦ rw (and_right_false (x.date == date) _ down) (not_found date n os (rw down at e))
]
