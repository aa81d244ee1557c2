-- Searching a list of records by date.
use Rattle.std.proofs.Common.{◌≡◌, ◌≢◌, ℕ, ◌+◌, ◌<◌, ◌≤◌, ◌==◌, ◌&&◌, Bool, true, false, nat_lt, List, [], ◌∷◌}
use Rattle.std.proofs.Common.{None, inl, inr, refl, sym, ◌∙◌, arith, eqb-true, eq-eqb}
use Rattle.std.specs.List.{AllByRecursion, find}
use Rattle.std.proofs.lemmas.Bool.{cases_Bool, ltb-true, lt-ltb}
use Rattle.rtgs_book.specs.declared.limits.TheConstants.{LARGEST_NUMBER}
use Rattle.rtgs_book.specs.cores.Nexts.{AreNumberedInOrder, AreDatedInOrder}
use Rattle.rtgs_sql_look_ups.specs.Seeking.{first_above, first_of_date, is_early_found, kept_of_date, IsEarly, IsLate}
use Rattle.rtgs_lists.proofs.Bools.{and_right_false}
use Rattle.rtgs_lists.proofs.Finds.{find_nothing}

pub clash : (b : Bool) → b ≡ true → b ≡ false → ⊥
clash b one other = let e : ◌≡◌ {A = Bool} true false = sym one ∙ other in cc

not_below : (m n : ℕ) → nat_lt m n ≡ false → n ≤ m
not_below m n e = elim (cases_Bool (nat_lt m n)) [
  | inl low ↦ absurd (clash _ low e)
  | inr _ ↦ at_most m n (λ low. clash _ (lt-ltb m n low) e)
]
  where
    at_most : (m n : ℕ) → ¬ (m < n) → n ≤ m
    at_most m n none = omega (arith, none)

module _ {A : Type 0} (number date : A → ℕ) where
  -- the one found is among them
  found_from : (b d k : ℕ) (xs : List A) → AllByRecursion (λ y. b ≤ date y) xs
      → is_early_found date d (first_above number k xs) ≡ true → b < d
  found_from b d k [] all e = absurd cc
  found_from b d k (x ∷ xs) all e = elim (cases_Bool (nat_lt k (number x))) [
    | inl up ↦ let low = ltb-true (date x) d (rw up at e) in let from = all.0 in omega arith
    | inr down ↦ found_from b d k xs all.1 (rw down at e)
  ]

  none_up_to : (m n d : ℕ) (xs : List A) → n ≤ m → AllByRecursion (λ y. m < number y) xs → IsEarly number date d n xs
  none_up_to m n d [] le all = tt
  none_up_to m n d (x ∷ xs) le all =
      ((λ low. absurd (let up = all.0 in omega arith)), none_up_to m n d xs le all.1)

  -- the first above a number is early, so all up to the next number are
  pub early_all : (k d : ℕ) (xs : List A) → AreNumberedInOrder number xs → AreDatedInOrder date xs
      → is_early_found date d (first_above number k xs) ≡ true → IsEarly number date d (k + 1) xs
  early_all k d [] numbers dates e = tt
  early_all k d (x ∷ xs) numbers dates e = elim (cases_Bool (nat_lt k (number x))) [
    | inl up ↦
        let low = ltb-true (date x) d (rw up at e) in
        let above = ltb-true k (number x) up in
        ((λ _. low), none_up_to (number x) (k + 1) d xs (omega arith) numbers.1)
    | inr down ↦
        let more : is_early_found date d (first_above number k xs) ≡ true = rw down at e in
        let low = found_from (date x) d k xs dates.0 more in
        ((λ _. low), early_all k d xs numbers.2 dates.1 more)
  ]

  all_late : (b d k : ℕ) (xs : List A) → d ≤ b → AllByRecursion (λ y. b ≤ date y) xs → IsLate number date d k xs
  all_late b d k [] le all = tt
  all_late b d k (x ∷ xs) le all = ((λ _. let from = all.0 in omega arith), all_late b d k xs le all.1)

  -- the first above a number is not early, so none above it is
  pub late_all : (k d : ℕ) (xs : List A) → AreDatedInOrder date xs
      → is_early_found date d (first_above number k xs) ≡ false → IsLate number date d k xs
  late_all k d [] dates e = tt
  late_all k d (x ∷ xs) dates e = elim (cases_Bool (nat_lt k (number x))) [
    | inl up ↦
        let late = not_below (date x) d (rw up at e) in
        ((λ _. late), all_late (date x) d k xs late dates.0)
    | inr down ↦
        ((λ up. absurd (clash _ (lt-ltb k (number x) up) down)), late_all k d xs dates.1 (rw down at e))
  ]

  none_of_date : (b d n : ℕ) (xs : List A) → d < b → AllByRecursion (λ y. b ≤ date y) xs
      → first_of_date number date d n xs ≡ None
  none_of_date b d n [] low all = refl
  none_of_date b d n (x ∷ xs) low all = elim (cases_Bool (date x == d)) [
    | inl on ↦ absurd (let same = eqb-true (date x) d on in let from = all.0 in omega arith)
    | inr off ↦ rw off (none_of_date b d n xs low all.1)
  ]

  -- where none above the number is early, the first above it is the next, if it is of the date
  pub next_kept : (d n : ℕ) (xs : List A) → AreDatedInOrder date xs → IsLate number date d n xs
      → first_of_date number date d n xs ≡ kept_of_date date d (first_above number n xs)
  next_kept d n [] dates late = refl
  next_kept d n (x ∷ xs) dates late = elim (cases_Bool (nat_lt n (number x))) [
    | inl up ↦ elim (cases_Bool (date x == d)) [
      | inl on ↦ rw (on, up) (rw on refl)
      | inr off ↦
          let from = late.0 (ltb-true n (number x) up) in
          let low : d < date x = strictly (date x) d from off in
          rw (off, up) (none_of_date (date x) d n xs low dates.0 ∙ rw off refl)
    ]
    | inr down ↦ elim (cases_Bool (date x == d)) [
      | inl on ↦ rw (on, down) (next_kept d n xs dates.1 late.1)
      | inr off ↦ rw (off, down) (next_kept d n xs dates.1 late.1)
    ]
  ]
    where
      strictly : (m n : ℕ) → n ≤ m → (m == n) ≡ false → n < m
      strictly m n le off = omega (arith, le, apart m n off)
        where
          apart : (m n : ℕ) → (m == n) ≡ false → m ≢ n
          apart m n off same = clash _ (eq-eqb m n same) off

  -- early ones can be passed over
  pub next_moved : (d n low : ℕ) (xs : List A) → n ≤ low → IsEarly number date d low xs
      → first_of_date number date d n xs ≡ first_of_date number date d low xs
  next_moved d n low [] le early = refl
  next_moved d n low (x ∷ xs) le early = elim (cases_Bool (date x == d)) [
    | inl on ↦
        let same = eqb-true (date x) d on in
        let above : low < number x = past (number x) low (λ up. let e = early.0 up in absurd (omega arith)) in
        rw (on, lt-ltb n (number x) (omega arith), lt-ltb low (number x) above) refl
    | inr off ↦ rw off (next_moved d n low xs le early.1)
  ]
    where
      past : (m n : ℕ) → ¬ (m ≤ n) → n < m
      past m n none = omega (arith, none)

  -- no number is above the greatest
  pub late_at_last : (d : ℕ) (xs : List A) → AreNumberedInOrder number xs → IsLate number date d LARGEST_NUMBER xs
  late_at_last d [] numbers = tt
  late_at_last d (x ∷ xs) numbers =
      ((λ up. absurd (let least = numbers.0 in omega arith)), late_at_last d xs numbers.2)

-- so none is found above it
pub none_past : {A : Type 0} (number : A → ℕ) (on : A → Bool) (n : ℕ) (xs : List A) → LARGEST_NUMBER ≤ n
    → AreNumberedInOrder number xs → find (λ x. on x && nat_lt n (number x)) xs ≡ None
none_past {A = A} number on n xs le numbers = find_nothing (λ x. on x && nat_lt n (number x)) xs (past xs numbers)
  where
    past : (ys : List A) → AreNumberedInOrder number ys → AllByRecursion (λ x. (on x && nat_lt n (number x)) ≡ false) ys
    past [] numbers = tt
    past (x ∷ ys) numbers = elim (cases_Bool (nat_lt n (number x))) [
      | inl up ↦ absurd (let above = ltb-true n (number x) up in let least = numbers.0 in omega arith)
      | inr down ↦ (and_right_false (on x) _ down, past ys numbers.2)
    ]

-- whatever its date
pub none_above_last : {A : Type 0} (number : A → ℕ) (n : ℕ) (xs : List A) → LARGEST_NUMBER ≤ n
    → AreNumberedInOrder number xs → first_above number n xs ≡ None
none_above_last number n [] le numbers = refl
none_above_last number n (x ∷ xs) le numbers = elim (cases_Bool (nat_lt n (number x))) [
  | inl up ↦ absurd (let above = ltb-true n (number x) up in let least = numbers.0 in omega arith)
  | inr down ↦ rw down (none_above_last number n xs le numbers.2)
]
