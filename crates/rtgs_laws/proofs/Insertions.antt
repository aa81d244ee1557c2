-- A participant that is put at its place in code order.
use Rattle.std.proofs.Common.{◌≡◌, suc, ◌+◌, ℤ, ◌+ℤ◌, Bool, true, false, cond, not, ◌||◌, ◌⊎◌, ⊎_elim, inl, inr, List}
use Rattle.std.proofs.Common.{[], ◌∷◌, ◌++◌, map, filter, length, refl, sym, ap, ◌∙◌, true≢false, arith}
use Rattle.std.proofs.lemmas.Int.{ints}
use Rattle.std.specs.List.{AllByRecursion, IsDistinct, list_any}
use Rattle.rtgs_book.specs.IntSum.{int_sum_by}
use Rattle.rtgs_laws.proofs.Batches.{list_any_left}
use Rattle.rtgs_lists.proofs.Filters.{all_put_in, put_in}

-- ---- in order

pub length-put_in : {X : Type 0} (p : X → Bool) (x : X) (xs : List X) → length (put_in p x xs) ≡ length xs + 1
length-put_in p x [] = refl
length-put_in {X = X} p x (y ∷ ys) = by (p y) (length-put_in p x ys)
  where
    longer : (front back : List X) → length (front ++ x ∷ (y ∷ back)) ≡ suc (length (front ++ x ∷ back))
    longer [] back = refl
    longer (a ∷ front) back = ap suc (longer front back)

    by : (b : Bool) → length (put_in p x ys) ≡ length ys + 1
        → length (cond b (y ∷ filter p ys) (filter p ys) ++ x
        ∷ cond (not b) (y ∷ filter (λ y. not (p y)) ys) (filter (λ y. not (p y)) ys)) ≡ suc (length ys) + 1
    by true e = let l = e in omega arith
    by false e = let l = longer (filter p ys) (filter (λ y. not (p y)) ys) in omega arith

-- ---- the sum, and who is there

pub sum-put_in : {X : Type 0} (f : X → ℤ) (p : X → Bool) (x : X) (xs : List X)
    → int_sum_by f (put_in p x xs) ≡ f x +ℤ int_sum_by f xs
sum-put_in f p x [] = refl
sum-put_in {X = X} f p x (y ∷ ys) = by (p y) (sum-put_in f p x ys)
  where
    more : (front back : List X) → int_sum_by f (front ++ x ∷ (y ∷ back)) ≡ f y +ℤ int_sum_by f (front ++ x ∷ back)
    more [] back = omega (arith, ints)
    more (a ∷ front) back = let m = more front back in omega (arith, ints)

    by : (b : Bool) → int_sum_by f (put_in p x ys) ≡ f x +ℤ int_sum_by f ys
        → int_sum_by f (cond b (y ∷ filter p ys) (filter p ys) ++ x
        ∷ cond (not b) (y ∷ filter (λ y. not (p y)) ys) (filter (λ y. not (p y)) ys)) ≡ f x +ℤ (f y +ℤ int_sum_by f ys)
    by true e = omega (arith, ints)
    by false e = let m = more (filter p ys) (filter (λ y. not (p y)) ys) in omega (arith, ints)

any_right : {X : Type 0} (q : X → Bool) (xs ys : List X) → list_any q ys ≡ true → list_any q (xs ++ ys) ≡ true
any_right q [] ys e = e
any_right q (x ∷ xs) ys e = by (q x) (any_right q xs ys e)
  where
    by : (b : Bool) → list_any q (xs ++ ys) ≡ true → (b || list_any q (xs ++ ys)) ≡ true
    by true r = refl
    by false r = r

any_either : {X : Type 0} (q p : X → Bool) (xs : List X) → list_any q xs ≡ true
    → (list_any q (filter p xs) ≡ true) ⊎ (list_any q (filter (λ x. not (p x)) xs) ≡ true)
any_either q p [] e = absurd (true≢false (sym e))
any_either q p (x ∷ xs) e = by (p x) (q x) refl e (any_either q p xs)
  where
    by : (b c : Bool) → q x ≡ c → (c || list_any q xs) ≡ true
        → (list_any q xs ≡ true → (list_any q (filter p xs) ≡ true) ⊎ (list_any q (filter (λ x. not (p x)) xs) ≡ true))
        → (list_any q (cond b (x ∷ filter p xs) (filter p xs)) ≡ true)
        ⊎ (list_any q (cond (not b) (x ∷ filter (λ x. not (p x)) xs) (filter (λ x. not (p x)) xs)) ≡ true)
    by true true f e rest = inl (rw f refl)
    by true false f e rest = ⊎_elim (λ l. inl (rw f l)) (λ r. inr r) (rest e)
    by false true f e rest = inr (rw f refl)
    by false false f e rest = ⊎_elim (λ l. inl l) (λ r. inr (rw f r)) (rest e)

pub any-put_in : {X : Type 0} (q p : X → Bool) (x : X) (xs : List X) → list_any q xs ≡ true
    → list_any q (put_in p x xs) ≡ true
any-put_in q p x xs e =
    ⊎_elim
    (λ l. list_any_left q (filter p xs) (x ∷ filter (λ y. not (p y)) xs) l)
    (λ r. any_right q (filter p xs) (x ∷ filter (λ y. not (p y)) xs)
    (any_right q (x ∷ []) (filter (λ y. not (p y)) xs) r))
    (any_either q p xs e)

-- ---- keys that are apart

module _ {X Y : Type 0} (E : Y → Y → Bool) (turns : (a b : Y) → E a b ≡ E b a) (f : X → Y) where
  distinct_middle : (x y : X) (front back : List X) → IsDistinct E (map f (front ++ x ∷ back))
      → AllByRecursion (λ z. E (f y) z ≡ false) (map f (front ++ x ∷ back))
      → IsDistinct E (map f (front ++ x ∷ (y ∷ back)))
  unfolding IsDistinct
  distinct_middle x y [] back h k = ((turns (f x) (f y) ∙ k.0, h.0), (k.1, h.1))
  distinct_middle x y (z ∷ front) back h k = (
    spread (f z) front (turns (f z) (f y) ∙ k.0) h.0,
    distinct_middle x y
        front back h.1 k.1,
  )
    where
      spread : (w : Y) (front : List X) → E w (f y) ≡ false → AllByRecursion (λ v. E w v ≡ false)
          (map f (front ++ x ∷ back)) → AllByRecursion (λ v. E w v ≡ false) (map f (front ++ x ∷ (y ∷ back)))
      spread w [] e a = (a.0, (e, a.1))
      spread w (u ∷ front) e a = (a.0, spread w front e a.1)

  pub distinct_put_in : (p : X → Bool) (x : X) (xs : List X) → IsDistinct E (map f xs)
      → AllByRecursion (λ y. E (f y) (f x) ≡ false) xs → IsDistinct E (map f (put_in p x xs))
  unfolding IsDistinct
  distinct_put_in p x [] h k = (tt, tt)
  distinct_put_in p x (y ∷ ys) h k = by (p y) (distinct_put_in p x ys h.1 k.1)
    where
      mapped : (w : Y) (zs : List X) → AllByRecursion (λ v. E w (f v) ≡ false) zs
          → AllByRecursion (λ v. E w v ≡ false) (map f zs)
      mapped w [] a = tt
      mapped w (z ∷ zs) a = (a.0, mapped w zs a.1)

      unmapped : (w : Y) (zs : List X) → AllByRecursion (λ v. E w v ≡ false) (map f zs)
          → AllByRecursion (λ v. E w (f v) ≡ false) zs
      unmapped w [] a = tt
      unmapped w (z ∷ zs) a = (a.0, unmapped w zs a.1)

      others : AllByRecursion (λ z. E (f y) z ≡ false) (map f (put_in p x ys))
      others = mapped (f y) (put_in p x ys) (all_put_in (λ v. E (f y) (f v) ≡ false) p x ys (unmapped (f y) ys h.0) k.0)

      by : (b : Bool) → IsDistinct E (map f (put_in p x ys))
          → IsDistinct E (map f (cond b (y ∷ filter p ys) (filter p ys) ++ x
          ∷ cond (not b) (y ∷ filter (λ y. not (p y)) ys) (filter (λ y. not (p y)) ys)))
      by true rest = (others, rest)
      by false rest = distinct_middle x y (filter p ys) (filter (λ y. not (p y)) ys) rest others
