-- Orders and due dates are joined where they fit together.
use Rattle.std.proofs.Common.{◌≡◌, ◌≢◌, inl, inr, ℕ, ◌<◌, ◌==◌, true, false, List, [], ◌∷◌, Some}
use Rattle.std.proofs.Common.{eqb-true, eq-eqb, true≢false, refl, sym, subst, ◌∙◌, arith}
use Rattle.std.specs.List.{AllByRecursion}
use Rattle.std.proofs.lemmas.Bool.{cases_Bool}
use Rattle.sqlite_keyed.proofs.ListLemmas.{all_weaker}
use Rattle.rtgs_book.specs.declared.order.Order.{Order}
use Rattle.rtgs_book.specs.Books.{is_held}
use Rattle.rtgs_rows.specs.declared.forward.Forward.{Forward}
use Rattle.rtgs_sql_loading.specs.Joining.{Takes, AreJoined}
use Rattle.rtgs_sql_loading.specs.Laws.{HasNumber, RisesBy, FitTogether, WhatFitsIsJoined}

differ : (m n : ℕ) → m ≢ n → (m == n) ≡ false
differ m n other = elim (cases_Bool (m == n)) [
  | inl same ↦ absurd (other (eqb-true m n same))
  | inr apart ↦ apart
]

-- ---- numbers in a list

module _ {A : Type 0} (number : A → ℕ) where
  here : (x : A) (xs : List A) → HasNumber number (x ∷ xs) (number x)
  here x xs = rw (eq-eqb (number x) (number x) refl) refl

  there : (x : A) (xs : List A) (n : ℕ) → HasNumber number xs n → HasNumber number (x ∷ xs) n
  there x xs n has = elim (cases_Bool (number x == n)) [ inl hit ↦ rw hit refl | inr miss ↦ rw miss has ]

  passed : (x : A) (xs : List A) (n : ℕ) → number x ≢ n → HasNumber number (x ∷ xs) n → HasNumber number xs n
  passed x xs n other has = rw (differ (number x) n other) at has

  -- what is there is above what all are above
  above : (low n : ℕ) (xs : List A) → AllByRecursion (λ x. low < number x) xs → HasNumber number xs n → low < n
  above low n [] up has = absurd (true≢false (sym has))
  above low n (x ∷ xs) up has = elim (cases_Bool (number x == n)) [
    | inl hit ↦ subst (λ k. low < k) (eqb-true (number x) n hit) up.0
    | inr miss ↦ above low n xs up.1 (rw miss at has)
  ]

  higher : (low high : ℕ) → low < high → (xs : List A) → AllByRecursion (λ x. high < number x) xs
      → AllByRecursion (λ x. low < number x) xs
  higher low high less = all_weaker (λ x. high < number x) (λ x. low < number x) (λ x up. omega (arith, less, up))

abbrev order_number : Order → ℕ
order_number o = o.number

abbrev due_number : Forward → ℕ
due_number f = f.number

abbrev FindOrders : List Order → List Forward → Type 0
FindOrders undated_orders = AllByRecursion (λ (f : Forward). HasNumber order_number undated_orders f.number)

abbrev FindDues : List Forward → List Order → Type 0
FindDues forwards = AllByRecursion (λ (o : Order). is_held o ≡ true → HasNumber due_number forwards o.number)

-- ---- what fits is joined

-- due dates above an order are of later ones
of_later : (p : Order) (ps : List Order) (fs : List Forward) → AllByRecursion (λ (f : Forward). p.number < f.number) fs
    → FindOrders (p ∷ ps) fs → FindOrders ps fs
of_later p ps [] up found = tt
of_later p ps (f ∷ fs) up found = (
  passed order_number p ps f.number (λ same. let low = up.0 in omega (arith, low, same)) found.0,
  of_later p ps fs up.1 found.1,
)

-- and orders above a due date have later ones
have_later : (f : Forward) (fs : List Forward) (os : List Order)
    → AllByRecursion (λ (o : Order). f.number < o.number) os → FindDues (f ∷ fs) os → FindDues fs os
have_later f fs [] up found = tt
have_later f fs (o ∷ os) up found = (
  λ held. passed due_number f fs o.number (λ same. let low = up.0 in omega (arith, low, same)) (found.0 held),
  have_later f fs os up.1 found.1,
)

free_if : (p : Order) → (is_held p ≡ true → ⊥) → is_held p ≡ false
free_if p none = elim (cases_Bool (is_held p)) [ inl held ↦ absurd (none held) | inr free ↦ free ]

join : (ps : List Order) (fs : List Forward) → RisesBy order_number ps → RisesBy due_number fs → FindOrders ps fs
    → FindDues fs ps → (orders : List Order) × AreJoined ps fs orders
join [] [] up rise found dues = ([], (refl, refl))
join [] (f ∷ fs) up rise found dues = absurd (true≢false (sym found.0))
join (p ∷ ps) [] up rise found dues =
    let free = free_if p (λ held. true≢false (sym (dues.0 held))) in
    let more = join ps [] up.1 tt tt dues.1 in
    (p ∷ more.0, ([], inr (free, tt, refl, refl), more.1))
join (p ∷ ps) (f ∷ fs) up rise found dues = elim (cases_Bool (f.number == p.number)) [
  | inl hit ↦
      let same = eqb-true f.number p.number hit in
      let more = join ps fs up.1 rise.1
      (of_later p ps fs (subst (λ n. AllByRecursion (λ (g : Forward). n < g.number) fs) same rise.0) found.1)
      (have_later f fs ps (subst (λ n. AllByRecursion (λ (o : Order). n < o.number) ps) (sym same) up.0) dues.1) in (
        record p { due = Some f.due } ∷ more.0,
        (fs, inl (f.due, (λ i. record { number = same i; due = f.due } ∷ fs), refl), more.1),
      )
  | inr miss ↦
      let other : p.number ≢ f.number = λ same. true≢false (sym (eq-eqb f.number p.number (sym same)) ∙ miss) in
      let low = above order_number p.number f.number ps up.0 (passed order_number p ps f.number other found.0) in
      let all : AllByRecursion (λ (g : Forward). p.number < g.number) (f ∷ fs) =
      (low, higher due_number p.number f.number low fs rise.0) in
      let free = free_if p (λ held.
      let clash = above due_number p.number p.number (f ∷ fs) all (dues.0 held) in omega (arith, clash)) in
      let more = join ps (f ∷ fs) up.1 rise (of_later p ps (f ∷ fs) all found) dues.1 in
      (p ∷ more.0, (f ∷ fs, inr (free, (λ same. other (sym same)), refl, refl), more.1))
]

-- ---- what is joined fits

there_orders : (p : Order) (ps : List Order) (fs : List Forward) → FindOrders ps fs → FindOrders (p ∷ ps) fs
there_orders p ps = all_weaker (λ (f : Forward). HasNumber order_number ps f.number)
    (λ (f : Forward). HasNumber order_number (p ∷ ps) f.number) (λ f. there order_number p ps f.number)

there_dues : (f : Forward) (fs : List Forward) (os : List Order) → FindDues fs os → FindDues (f ∷ fs) os
there_dues f fs = all_weaker (λ (o : Order). is_held o ≡ true → HasNumber due_number fs o.number)
    (λ (o : Order). is_held o ≡ true → HasNumber due_number (f ∷ fs) o.number)
    (λ o has held. there due_number f fs o.number (has held))

fits : (ps : List Order) (fs : List Forward) (orders : List Order) → AreJoined ps fs orders → FitTogether ps fs
fits [] fs orders joined = record { orders = subst (FindOrders []) (sym joined.0) tt; dues = tt }
fits (p ∷ ps) fs [] joined = absurd joined
fits (p ∷ ps) fs (o ∷ orders) joined = by joined.1 (fits ps joined.0 orders joined.2)
  where
    by : Takes p fs o joined.0 → FitTogether ps joined.0 → FitTogether (p ∷ ps) fs
    by (inl (due, is, same)) more =
        let first : Forward = record { number = p.number; due = due } in
        subst (FitTogether (p ∷ ps)) (sym is) (record {
          orders = (here order_number p ps, there_orders p ps joined.0 more.orders);
          dues = ((λ held. here due_number first joined.0), there_dues first joined.0 ps more.dues);
        })
    by (inr (free, apart, stays, same)) more = subst (FitTogether (p ∷ ps)) stays (record {
      orders = there_orders p ps joined.0 more.orders;
      dues = ((λ held. absurd (true≢false (sym held ∙ free))), more.dues);
    })

pub both_ways : WhatFitsIsJoined
both_ways undated_orders forwards up rise = (
  (λ fit. join undated_orders forwards up rise fit.orders fit.dues),
  (λ made. fits undated_orders forwards made.0 made.1),
)
