-- Lists of records in rising number.
use Rattle.std.proofs.Common.{◌≡◌, ℕ, ◌+◌, ◌<◌, ◌≤◌, Bool, true, false, List, [], ◌∷◌}
use Rattle.std.proofs.Common.{map, length, Some, sym, subst, ◌∙◌, arith, inl, inr}
use Rattle.std.specs.List.{AllByRecursion, find, range_with_len}
use Rattle.std.proofs.lemmas.Bool.{cases_Bool}
use Rattle.std.proofs.lemmas.List.{length-map}
use Rattle.rtgs_book.specs.declared.limits.TheConstants.{LARGEST_NUMBER}
use Rattle.rtgs_book.specs.Soundness.{AreNumbered, NeverFall}
use Rattle.rtgs_book.specs.cores.Nexts.{AreNumberedInOrder, AreDatedInOrder, AreListed}

module _ {A : Type 0} (number : A → ℕ) where
  above_all : (k m : ℕ) (xs : List A) → map number xs ≡ range_with_len k (length xs) → m < k
      → AllByRecursion (λ y. m < number y) xs
  above_all k m [] is low = tt
  above_all k m (x ∷ xs) is low =
      let first : number x ≡ k = cc in
      let rest : map number xs ≡ range_with_len (k + 1) (length xs) = cc in
      (omega arith, above_all (k + 1) m xs rest (omega arith))

  in_order_from : (k : ℕ) (xs : List A) → map number xs ≡ range_with_len k (length xs)
      → k + length xs ≤ LARGEST_NUMBER + 1 → AreNumberedInOrder number xs
  in_order_from k [] is small = tt
  in_order_from k (x ∷ xs) is small =
      let first : number x ≡ k = cc in
      let rest : map number xs ≡ range_with_len (k + 1) (length xs) = cc in (
        omega arith,
        above_all (k + 1) (number x) xs rest (omega arith),
        in_order_from (k + 1) xs rest (omega arith),
      )

  pub are_in_order : (xs : List A) → AreNumbered (map number xs) → AreNumberedInOrder number xs
  are_in_order xs numbered =
      let long = length-map xs number in
      in_order_from 1 xs (subst (λ n. map number xs ≡ range_with_len 1 n) long numbered.0)
      (let small = numbered.1 in omega arith)

module _ {A : Type 0} (date : A → ℕ) where
  late_all : (d : ℕ) (xs : List A) → AllByRecursion (λ later. d ≤ later) (map date xs)
      → AllByRecursion (λ y. d ≤ date y) xs
  late_all d [] late = tt
  late_all d (x ∷ xs) late = (late.0, late_all d xs late.1)

  dated : (last : ℕ) (xs : List A) → NeverFall last (map date xs) → AreDatedInOrder date xs
  dated last [] dates = tt
  dated last (x ∷ xs) dates = (late_all (date x) xs dates.0, dated last xs dates.2)

pub are_listed : {A : Type 0} (number date : A → ℕ) (last : ℕ) (xs : List A) → AreNumbered (map number xs)
    → NeverFall last (map date xs) → AreListed number date xs
are_listed number date last xs numbered dates = record {
  numbers = are_in_order number xs numbered;
  dates = dated date last xs dates;
}

-- ---- the first that passes a test has the least number of those that pass

-- what is found passes the test
pub found_passes : {A : Type 0} (hit : A → Bool) (a : A) (xs : List A) → find hit xs ≡ Some a → hit a ≡ true
found_passes hit a [] is = absurd cc
found_passes hit a (x ∷ xs) is = elim (cases_Bool (hit x)) [
  | inl here ↦ let same : x ≡ a = (let e = rw here at is in cc) in subst (λ y. hit y ≡ true) same here
  | inr other ↦ found_passes hit a xs (rw other at is)
]

above_least : {A : Type 0} (number : A → ℕ) (hit : A → Bool) (a : A) (xs : List A)
    → AllByRecursion (λ y. number a < number y) xs → AllByRecursion (λ y. hit y ≡ true → number a ≤ number y) xs
above_least number hit a [] low = tt
above_least number hit a (y ∷ ys) low = ((λ _. let l = low.0 in omega arith), above_least number hit a ys low.1)

pub found_least : {A : Type 0} (number : A → ℕ) (hit : A → Bool) (a : A) (xs : List A)
    → AreNumberedInOrder number xs → find hit xs ≡ Some a
    → AllByRecursion (λ y. hit y ≡ true → number a ≤ number y) xs
found_least number hit a [] listed is = tt
found_least number hit a (x ∷ xs) listed is = elim (cases_Bool (hit x)) [
  | inl here ↦
      let same : x ≡ a = (let e = rw here at is in cc) in
      subst (λ b. AllByRecursion (λ y. hit y ≡ true → number b ≤ number y) (x ∷ xs)) same
      ((λ _. omega arith), above_least number hit x xs listed.1)
  | inr other ↦ (
    (λ on. absurd (let clash : ◌≡◌ {A = Bool} true false = sym on ∙ other in cc)),
    found_least number hit a xs listed.2 (rw other at is),
  )
]
