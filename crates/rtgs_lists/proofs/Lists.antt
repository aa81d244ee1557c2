-- What holds of each element of a list.
use Rattle.std.proofs.Common.{◌≡◌, ℕ, zero, suc, ◌<◌, Bool, true, false, cond, ◌||◌, List, [], ◌∷◌, ◌++◌, map, filter}
use Rattle.std.proofs.Common.{length, get_or, refl, sym, ap, subst, arith}
use Rattle.std.specs.List.{AllByRecursion}

pub all_of : {X : Type 0} (P : X → Type 0) → ((x : X) → P x) → (xs : List X) → AllByRecursion P xs
all_of P f [] = tt
all_of P f (x ∷ xs) = (f x, all_of P f xs)

pub all_weaker : {X : Type 0} (P Q : X → Type 0) → ((x : X) → P x → Q x) → (xs : List X) → AllByRecursion P xs
    → AllByRecursion Q xs
all_weaker P Q f [] h = tt
all_weaker P Q f (x ∷ xs) h = (f x h.0, all_weaker P Q f xs h.1)

pub all_both : {X : Type 0} (P Q R : X → Type 0) → ((x : X) → P x → Q x → R x) → (xs : List X) → AllByRecursion P xs
    → AllByRecursion Q xs → AllByRecursion R xs
all_both P Q R f [] h k = tt
all_both P Q R f (x ∷ xs) h k = (f x h.0 k.0, all_both P Q R f xs h.1 k.1)

pub all_append : {X : Type 0} (P : X → Type 0) (xs ys : List X) → AllByRecursion P xs → AllByRecursion P ys
    → AllByRecursion P (xs ++ ys)
all_append P [] ys h k = k
all_append P (x ∷ xs) ys h k = (h.0, all_append P xs ys h.1 k)

pub all_push : {X : Type 0} (P : X → Type 0) (xs : List X) (x : X) → AllByRecursion P xs → P x
    → AllByRecursion P (xs ++ x ∷ [])
all_push P xs x h p = all_append P xs (x ∷ []) h (p, tt)

pub all_filter : {X : Type 0} (P : X → Type 0) (p : X → Bool) (xs : List X) → AllByRecursion P xs
    → AllByRecursion P (filter p xs)
all_filter P p [] h = tt
all_filter P p (x ∷ xs) h = by (p x) (all_filter P p xs h.1)
  where
    by : (b : Bool) → AllByRecursion P (filter p xs) → AllByRecursion P (cond b (x ∷ filter p xs) (filter p xs))
    by true rest = (h.0, rest)
    by false rest = rest

-- the element at a place
pub all_at_place : {X : Type 0} (P : X → Type 0) (xs : List X) → AllByRecursion P xs → (k : ℕ) (d : X)
    → k < length xs → P (get_or xs k d)
all_at_place P [] h k d lt = absurd (omega arith)
all_at_place P (x ∷ xs) h zero d lt = h.0
all_at_place P (x ∷ xs) h (suc k) d lt = all_at_place P xs h.1 k d (omega arith)

-- and an element that is at a place
pub all_get : {X : Type 0} (P : X → Type 0) (xs : List X) (k : ℕ) (x : X) → k < length xs → x ≡ get_or xs k x
    → AllByRecursion P xs → P x
all_get P xs k x lt is h = subst P (sym is) (all_at_place P xs h k x lt)

-- what a change of the elements leaves alone
pub map_same : {X Y : Type 0} (g : X → Y) (f : X → X) → ((x : X) → g (f x) ≡ g x) → (xs : List X)
    → map g (map f xs) ≡ map g xs
map_same g f same [] = refl
map_same g f same (x ∷ xs) = λ i. same x i ∷ map_same g f same xs i

pub all_map : {X Y : Type 0} (P : Y → Type 0) (f : X → Y) (xs : List X) → AllByRecursion (λ x. P (f x)) xs
    → AllByRecursion P (map f xs)
all_map P f [] h = tt
all_map P f (x ∷ xs) h = (h.0, all_map P f xs h.1)

pub all_unmap : {X Y : Type 0} (P : Y → Type 0) (f : X → Y) (xs : List X) → AllByRecursion P (map f xs)
    → AllByRecursion (λ x. P (f x)) xs
all_unmap P f [] h = tt
all_unmap P f (x ∷ xs) h = (h.0, all_unmap P f xs h.1)

pub map_push : {X Y : Type 0} (f : X → Y) (xs : List X) (x : X) → map f (xs ++ x ∷ []) ≡ map f xs ++ f x ∷ []
map_push f [] x = refl
map_push f (y ∷ xs) x = ap (λ ys. f y ∷ ys) (map_push f xs x)

-- ---- some elements are changed, those that pass a test

-- what the change leaves alone of an element
pub changed_same : {X Y : Type 0} (g : X → Y) (f : X → X) → ((x : X) → g (f x) ≡ g x) → (is_in : X → Bool) (x : X)
    → g (cond (is_in x) (f x) x) ≡ g x
changed_same {X} {Y} g f same is_in x = by (is_in x)
  where
    by : (b : Bool) → g (cond b (f x) x) ≡ g x
    by true = same x
    by false = refl

-- what holds of each element, and of a changed one if it held of it before
pub all_changed : {X : Type 0} (P : X → Type 0) (is_in : X → Bool) (f : X → X) (xs : List X)
    → AllByRecursion (λ x. is_in x ≡ true → P x → P (f x)) xs → AllByRecursion P xs
    → AllByRecursion P (map (λ x. cond (is_in x) (f x) x) xs)
all_changed P is_in f [] moved h = tt
all_changed P is_in f (x ∷ xs) moved h = (by (is_in x) refl, all_changed P is_in f xs moved.1 h.1)
  where
    by : (b : Bool) → is_in x ≡ b → P (cond b (f x) x)
    by true e = moved.0 e h.0
    by false e = h.0

-- tests that agree change the same elements
pub changed_agrees : {X : Type 0} (p q : X → Bool) (f : X → X) (xs : List X) → AllByRecursion (λ x. p x ≡ q x) xs
    → map (λ x. cond (p x) (f x) x) xs ≡ map (λ x. cond (q x) (f x) x) xs
changed_agrees p q f [] h = refl
changed_agrees p q f (x ∷ xs) h = λ i. cond (h.0 i) (f x) x ∷ changed_agrees p q f xs h.1 i

-- those that pass one test and then those that pass another, where to change twice is to change once
pub changed_twice : {X : Type 0} (p q : X → Bool) (f : X → X) → ((x : X) → f (f x) ≡ f x) → (xs : List X)
    → map (λ x. cond (q x) (f x) x) (map (λ x. cond (p x) (f x) x) xs) ≡ map (λ x. cond (p x || q x) (f x) x) xs
changed_twice p q f once [] = refl
changed_twice p q f once (x ∷ xs) = λ i. by (p x) i ∷ changed_twice p q f once xs i
  where
    again : (c : Bool) → cond c (f (f x)) (f x) ≡ f x
    again true = once x
    again false = refl

    by : (b : Bool) → cond (q (cond b (f x) x)) (f (cond b (f x) x)) (cond b (f x) x) ≡ cond (b || q x) (f x) x
    by true = again (q (f x))
    by false = refl
