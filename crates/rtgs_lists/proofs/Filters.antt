-- Filters, and an element that is put in between those that pass and those that don't.
use Rattle.std.proofs.Common.{◌≡◌, ◌≤◌, Bool, true, false, cond, not, ◌&&◌, List, [], ◌∷◌, ◌++◌, map, filter, length}
use Rattle.std.proofs.Common.{refl, sym, ap, ◌∙◌, true≢false, arith}
use Rattle.std.proofs.lemmas.List.{length-map}
use Rattle.std.specs.List.{AllByRecursion}
use Rattle.rtgs_lists.proofs.Lists.{all_append, all_filter}

pub filter_all : {X : Type 0} (p : X → Bool) (xs : List X) → AllByRecursion (λ x. p x ≡ true) xs → filter p xs ≡ xs
filter_all p [] h = refl
filter_all p (x ∷ xs) h = rw (h.0, filter_all p xs h.1) refl

pub filter_nothing : {X : Type 0} (p : X → Bool) (xs : List X) → AllByRecursion (λ x. p x ≡ false) xs → filter p xs ≡ []
filter_nothing p [] h = refl
filter_nothing p (x ∷ xs) h = rw (h.0, filter_nothing p xs h.1) refl

pub map-filter : {X Y : Type 0} (g : X → Y) (q : Y → Bool) (xs : List X)
    → map g (filter (λ x. q (g x)) xs) ≡ filter q (map g xs)
map-filter g q [] = refl
map-filter g q (x ∷ xs) = by (q (g x)) (map-filter g q xs)
  where
    by : (b : Bool) → map g (filter (λ x. q (g x)) xs) ≡ filter q (map g xs)
        → map g (cond b (x ∷ filter (λ x. q (g x)) xs) (filter (λ x. q (g x)) xs))
        ≡ cond b (g x ∷ filter q (map g xs)) (filter q (map g xs))
    by true e = ap (λ ys. g x ∷ ys) e
    by false e = e

pub filter_agrees : {X : Type 0} (p q : X → Bool) (xs : List X) → AllByRecursion (λ x. p x ≡ q x) xs
    → filter p xs ≡ filter q xs
filter_agrees p q [] h = refl
filter_agrees p q (x ∷ xs) h = rw (h.0, filter_agrees p q xs h.1) refl

pub filter_twice : {X : Type 0} (p q : X → Bool) (xs : List X) → filter q (filter p xs) ≡ filter (λ x. p x && q x) xs
filter_twice p q [] = refl
filter_twice p q (x ∷ xs) = by (p x) (filter_twice p q xs)
  where
    by : (b : Bool) → filter q (filter p xs) ≡ filter (λ x. p x && q x) xs
        → filter q (cond b (x ∷ filter p xs) (filter p xs)) ≡ cond (b && q x) (x ∷ filter (λ x. p x && q x) xs)
        (filter (λ x. p x && q x) xs)
    by true rest = ap (λ (ys : List _). cond (q x) (x ∷ ys) ys) rest
    by false rest = rest

-- elements are tested by what they are made of
pub filter_of : {X Y : Type 0} (g : X → Y) (q : Y → Bool) (p : X → Bool) → ((x : X) → q (g x) ≡ p x) → (xs : List X)
    → filter q (map g xs) ≡ map g (filter p xs)
filter_of g q p same [] = refl
filter_of g q p same (x ∷ xs) = by (p x) (same x) (filter_of g q p same xs)
  where
    by : (b : Bool) → q (g x) ≡ b → filter q (map g xs) ≡ map g (filter p xs)
        → cond (q (g x)) (g x ∷ filter q (map g xs)) (filter q (map g xs))
        ≡ map g (cond b (x ∷ filter p xs) (filter p xs))
    by true is rest = rw is (ap (λ ys. g x ∷ ys) rest)
    by false is rest = rw is rest

-- what passes the narrower test is no more
pub filter_shorter : {X : Type 0} (p q : X → Bool) → ((x : X) → p x ≡ true → q x ≡ true) → (xs : List X)
    → length (filter p xs) ≤ length (filter q xs)
filter_shorter p q wider [] = omega arith
filter_shorter p q wider (x ∷ xs) = by (p x) refl (q x) refl (filter_shorter p q wider xs)
  where
    by : (a : Bool) → p x ≡ a → (b : Bool) → q x ≡ b → length (filter p xs) ≤ length (filter q xs)
        → length (cond a (x ∷ filter p xs) (filter p xs)) ≤ length (cond b (x ∷ filter q xs) (filter q xs))
    by true e true f rest = omega arith
    by true e false f rest = absurd (true≢false (sym (wider x e) ∙ f))
    by false e true f rest = omega arith
    by false e false f rest = rest

abbrev pub put_in : {X : Type 0} → (X → Bool) → X → List X → List X
put_in p x xs = filter p xs ++ x ∷ filter (λ y. not (p y)) xs

pub all_put_in : {X : Type 0} (P : X → Type 0) (p : X → Bool) (x : X) (xs : List X) → AllByRecursion P xs → P x
    → AllByRecursion P (put_in p x xs)
all_put_in P p x xs h k = all_append P (filter p xs) (x ∷ filter (λ y. not (p y)) xs) (all_filter P p xs h)
    (k, all_filter P (λ y. not (p y)) xs h)

-- a filter that passes neither the old nor the new of the elements that are changed
pub filter_changed : {X : Type 0} (p is_in : X → Bool) (f : X → X) → ((x : X) → p (f x) ≡ false) → (xs : List X)
    → AllByRecursion (λ x. is_in x ≡ true → p x ≡ false) xs
    → filter p (map (λ x. cond (is_in x) (f x) x) xs) ≡ filter p xs
filter_changed p is_in f never [] h = refl
filter_changed p is_in f never (x ∷ xs) h = by (is_in x) refl (filter_changed p is_in f never xs h.1)
  where
    by : (b : Bool) → is_in x ≡ b → filter p (map (λ x. cond (is_in x) (f x) x) xs) ≡ filter p xs
        → cond (p (cond b (f x) x)) (cond b (f x) x ∷ filter p (map (λ x. cond (is_in x) (f x) x) xs))
        (filter p (map (λ x. cond (is_in x) (f x) x) xs)) ≡ cond (p x) (x ∷ filter p xs) (filter p xs)
    by true e rest = rw (never x, h.0 e, rest) refl
    by false e rest = rw rest refl

-- a filter that does not pass what is changed keeps no more than before
module _ {X : Type 0} (p is_in : X → Bool) (f : X → X) (never : (x : X) → p (f x) ≡ false) where
  pub all_filter_changed : (P : X → Type 0) (xs : List X) → AllByRecursion P (filter p xs)
      → AllByRecursion P (filter p (map (λ x. cond (is_in x) (f x) x) xs))
  all_filter_changed P [] h = tt
  all_filter_changed P (x ∷ xs) h = by (is_in x) (p x) refl h (all_filter_changed P xs)
    where
      by : (b d : Bool) → p x ≡ d → AllByRecursion P (cond d (x ∷ filter p xs) (filter p xs))
          → (AllByRecursion P (filter p xs) → AllByRecursion P (filter p (map (λ x. cond (is_in x) (f x) x) xs)))
          → AllByRecursion P (cond (p (cond b (f x) x))
          (cond b (f x) x ∷ filter p (map (λ x. cond (is_in x) (f x) x) xs))
          (filter p (map (λ x. cond (is_in x) (f x) x) xs)))
      by true true e k rest = rw (never x) (rest k.1)
      by true false e k rest = rw (never x) (rest k)
      by false true e k rest = rw e (k.0, rest k.1)
      by false false e k rest = rw e (rest k)

  passed_before : (x : X) → p (cond (is_in x) (f x) x) ≡ true → p x ≡ true
  passed_before x = by (is_in x)
    where
      by : (b : Bool) → p (cond b (f x) x) ≡ true → p x ≡ true
      by true e = absurd (true≢false (sym e ∙ never x))
      by false e = e

  pub length-filter_changed : (xs : List X)
      → length (filter p (map (λ x. cond (is_in x) (f x) x) xs)) ≤ length (filter p xs)
  length-filter_changed xs =
      let shorter = filter_shorter (λ x. p (cond (is_in x) (f x) x)) p passed_before xs in
      rw (
        filter_of (λ x. cond (is_in x) (f x) x) p (λ x. p (cond (is_in x) (f x) x)) (λ x. refl) xs,
        length-map (filter (λ x. p (cond (is_in x) (f x) x)) xs) (λ x. cond (is_in x) (f x) x),
      ) shorter
