-- What is left of a list of records above a number, as records are read one after another.
use Rattle.std.proofs.Common.{◌≡◌, ℕ, ◌+◌, ◌<◌, ◌≤◌, Bool, true, false, ◌&&◌, List, [], ◌∷◌, map, filter, length}
use Rattle.std.proofs.Common.{Some, None, refl, sym, ap, subst, ◌∙◌, arith, inl, inr}
use Rattle.std.specs.Prelude.{nat_lt}
use Rattle.std.specs.List.{AllByRecursion, find, range_with_len}
use Rattle.std.proofs.lemmas.Bool.{cases_Bool, and_parts, ltb-true, lt-ltb}
use Rattle.rtgs_book.specs.cores.Nexts.{AreNumberedInOrder}
use Rattle.rtgs_lists.proofs.Filters.{filter_agrees}

not_less : (a b : ℕ) → b ≤ a → nat_lt a b ≡ false
not_less a b most = elim (cases_Bool (nat_lt a b)) [
  | inl under ↦ absurd (let less = ltb-true a b under in omega arith)
  | inr over ↦ over
]

and_false : (b : Bool) → (b && false) ≡ false
and_false true = refl
and_false false = refl

and_true : (b : Bool) → (b && true) ≡ b
and_true true = refl
and_true false = refl

-- tests that agree on all elements leave the same of them
found_in : {A : Type 0} (P : A → Type 0) (hit : A → Bool) (a : A) (xs : List A) → AllByRecursion P xs
    → find hit xs ≡ Some a → P a
found_in P hit a [] all is = absurd cc
found_in P hit a (x ∷ xs) all is = elim (cases_Bool (hit x)) [
  | inl here ↦ let same : x ≡ a = (let e = rw here at is in cc) in subst P same all.0
  | inr other ↦ found_in P hit a xs all.1 (rw other at is)
]

module _ {A : Type 0} (number : A → ℕ) (on : A → Bool) where
  -- passes, with a number above this one
  abbrev pub above : ℕ → A → Bool
  above n x = on x && nat_lt n (number x)

  agree_above : (n m : ℕ) (xs : List A) → n < m → AllByRecursion (λ y. m < number y) xs
      → AllByRecursion (λ y. above n y ≡ above m y) xs
  agree_above n m [] less all = tt
  agree_above n m (y ∷ ys) less all =
      let high = all.0 in (
        ap (λ b. on y && b) (lt-ltb n (number y) (omega arith) ∙ sym (lt-ltb m (number y) high)),
        agree_above n m ys less all.1,
      )

  -- what is found is the first of what is left, and the rest is left above its number
  pub next_splits : (n : ℕ) (a : A) (xs : List A) → AreNumberedInOrder number xs → find (above n) xs ≡ Some a
      → filter (above n) xs ≡ a ∷ filter (above (number a)) xs
  next_splits n a [] numbers is = absurd cc
  next_splits n a (x ∷ xs) numbers is = elim (cases_Bool (above n x)) [
    | inl here ↦
        let same : x ≡ a = (let e = rw here at is in cc) in
        let less = ltb-true n (number x) (and_parts (on x) _ here).1 in
        let out : above (number x) x ≡ false =
        ap (λ b. on x && b) (not_less (number x) (number x) (omega arith)) ∙ and_false (on x) in
        let rest = filter_agrees (above n) (above (number x)) xs (agree_above n (number x) xs less numbers.1) in
        subst (λ z. filter (above n) (x ∷ xs) ≡ z ∷ filter (above (number z)) (x ∷ xs)) same
        (rw (here, out) (ap (λ ys. x ∷ ys) rest))
    | inr other ↦
        let found : find (above n) xs ≡ Some a = rw other at is in
        let low = found_in (λ y. number x < number y) (above n) a xs numbers.1 found in
        let out : above (number a) x ≡ false =
        ap (λ b. on x && b) (not_less (number a) (number x) (omega arith)) ∙ and_false (on x) in
        rw (other, out) (next_splits n a xs numbers.2 found)
  ]

  -- where nothing is found, nothing is left
  pub next_ends : (n : ℕ) (xs : List A) → find (above n) xs ≡ None → filter (above n) xs ≡ []
  next_ends n [] is = refl
  next_ends n (x ∷ xs) is = elim (cases_Bool (above n x)) [
    | inl here ↦ absurd (let e = rw here at is in cc)
    | inr other ↦ rw other (next_ends n xs (rw other at is))
  ]

  -- what is found has a number above the given one
  pub next_above : (n : ℕ) (a : A) (xs : List A) → find (above n) xs ≡ Some a → n < number a
  next_above n a [] is = absurd cc
  next_above n a (x ∷ xs) is = elim (cases_Bool (above n x)) [
    | inl here ↦
        let same : x ≡ a = (let e = rw here at is in cc) in
        subst (λ y. n < number y) same (ltb-true n (number x) (and_parts (on x) _ here).1)
    | inr other ↦ next_above n a xs (rw other at is)
  ]

  positive : (k : ℕ) (xs : List A) → map number xs ≡ range_with_len k (length xs) → 0 < k
      → AllByRecursion (λ y. above 0 y ≡ on y) xs
  positive k [] is some = tt
  positive k (x ∷ xs) is some =
      let first : number x ≡ k = cc in
      let rest : map number xs ≡ range_with_len (k + 1) (length xs) = cc in (
        ap (λ b. on x && b) (lt-ltb 0 (number x) (omega arith)) ∙ and_true (on x),
        positive (k + 1) xs rest (omega arith),
      )

  -- above nothing all are left, since numbers begin with 1
  pub all_left : (xs : List A) → map number xs ≡ range_with_len 1 (length xs) → filter (above 0) xs ≡ filter on xs
  all_left xs is = filter_agrees (above 0) on xs (positive 1 xs is (omega arith))
