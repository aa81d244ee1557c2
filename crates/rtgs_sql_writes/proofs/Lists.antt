-- Lists, and rows in the order of their row numbers.
use Rattle.std.proofs.Common.{◌≡◌, ℕ, zero, suc, ◌<◌, ◌≤◌, ℤ, Bool, true, false, ◌||◌, List, [], ◌∷◌, ◌++◌, map, drop}
use Rattle.std.proofs.Common.{get_or, length, refl, ap, arith}
use Rattle.std.specs.List.{AllByRecursion, list_any}
use Rattle.std.specs.Ordering.{int_cmp}
use Rattle.std.specs.declared.cmp.Ordering.TheVariants.{Less}
use Rattle.sqlite.specs.declared.types.Value.TheVariants.{Int}
use Rattle.sqlite.specs.Order.{Row}
use Rattle.sqlite_value.proofs.OrderLemmas.{value_cmp-Int}
use Rattle.sqlite.specs.Tree.{put_row, rowid, IsAscending}

pub put_last : {A : Type 0} (row : A → Row) (id : A → ℤ) → ((a : A) → rowid (row a) ≡ Int (id a))
    → (new : A) (all : List A) → AllByRecursion (λ a. int_cmp (id a) (id new) ≡ Less) all
    → put_row (row new) (map row all) ≡ map row (all ++ new ∷ [])
put_last row id is_id new [] low = refl
put_last row id is_id new (a ∷ all) low = rw (is_id a, is_id new, value_cmp-Int (id a) (id new), low.0)
    (ap (λ more. row a ∷ more) (put_last row id is_id new all low.1))

all_last : {A : Type 0} (P : A → Type 0) (xs : List A) (x : A) → AllByRecursion P (xs ++ x ∷ []) → P x
all_last P [] x h = h.0
all_last P (y ∷ ys) x h = all_last P ys x h.1

-- in a rising list each one is below the last
pub before_last : {A : Type 0} (R : A → A → Type 0) (xs : List A) (x : A) → IsAscending R (xs ++ x ∷ [])
    → AllByRecursion (λ a. R a x) xs
before_last R [] x h = tt
before_last R (y ∷ ys) x h = (all_last (R y) ys x h.0, before_last R ys x h.1)

-- each element has the property at its place
abbrev pub EachAt : {A : Type 0} → (ℕ → A → Type 0) → List A → Type 0
EachAt P [] = Unit {0}
EachAt P (x ∷ xs) = P 0 x × EachAt (λ at. P (suc at)) xs

pub each_at : {A : Type 0} (P : ℕ → A → Type 0) (xs : List A) → EachAt P xs → (at : ℕ) (d : A) → at < length xs
    → P at (get_or xs at d)
each_at P [] each at d low = absurd (omega arith)
each_at P (x ∷ xs) each zero d low = each.0
each_at P (x ∷ xs) each (suc at) d low = each_at (λ n. P (suc n)) xs each.1 at d (omega arith)

or_true : (b c : Bool) → c ≡ true → (b || c) ≡ true
or_true true c is = refl
or_true false c is = is

-- where one from a place on passes, there is one that does
pub some_from : {A : Type 0} (p : A → Bool) (xs : List A) (from at : ℕ) (d : A) → from ≤ at → at < length xs
    → p (get_or xs at d) ≡ true → list_any p (drop from xs) ≡ true
some_from p [] from at d low within is = absurd (omega (arith, within))
some_from p (x ∷ xs) zero zero d low within is = rw is
some_from p (x ∷ xs) zero (suc at) d low within is =
    or_true (p x) _ (some_from p xs zero at d (omega arith) (omega (arith, within)) is)
some_from p (x ∷ xs) (suc from) zero d low within is = absurd (omega (arith, low))
some_from p (x ∷ xs) (suc from) (suc at) d low within is =
    some_from p xs from at d (omega (arith, low)) (omega (arith, within)) is

or_false : (b c : Bool) → b ≡ false → c ≡ false → (b || c) ≡ false
or_false true c is more = is
or_false false c is more = more

-- where none from a place on passes, there is none that does
pub none_from : {A : Type 0} (p : A → Bool) (xs : List A) (from : ℕ) (d : A)
    → ((at : ℕ) → from ≤ at → at < length xs → p (get_or xs at d) ≡ false) → list_any p (drop from xs) ≡ false
none_from p [] zero d none = refl
none_from p [] (suc from) d none = refl
none_from p (x ∷ xs) zero d none =
    or_false (p x) _ (none 0 (omega arith) (omega arith))
    (none_from p xs zero d (λ at low within. none (suc at) (omega arith) (omega (arith, within))))
none_from p (x ∷ xs) (suc from) d none =
    none_from p xs from d (λ at low within. none (suc at) (omega (arith, low)) (omega (arith, within)))
