-- Texts in the order of their bytes, as participants' codes stand, and one that is put in at its place.
use Rattle.std.proofs.Common.{◌≡◌, ℕ, Bool, true, false, cond, not, ◌||◌, List, [], ◌∷◌, ◌++◌, filter, nat_cmp}
use Rattle.std.proofs.Common.{Ordering, Less, Equal, Greater, is_lt, refl, sym, ap, ◌∙◌, subst, true≢false, arith}
use Rattle.std.proofs.lemmas.Bool.Decides.{same_from_decides, Decides-like, nat_tests}
use Rattle.std.specs.List.{AllByRecursion, list_any}
use Rattle.std.specs.List.Sorted.{IsStrictlySortedBy}
use Rattle.std.specs.Ordering.{ordering_reverse}
use Rattle.std.specs.Str.{bytes_eq}
use Rattle.std.specs.Cmp.Lexicographic.{slice_cmp, bytes_decides, nat_list_cmp_total}
use Rattle.std.specs.FinMap.{nat_cmp-IsAntisymmetric, slice_cmp-IsAntisymmetric}
use Rattle.rtgs_lists.proofs.Lists.{all_weaker}
use Rattle.rtgs_lists.proofs.Filters.{filter_all, filter_nothing, put_in, all_put_in}

pub bytes_eq_comm : (a b : List ℕ) → bytes_eq a b ≡ bytes_eq b a
bytes_eq_comm a b = same_from_decides _ _ (bytes_decides a b)
    (Decides-like _ (λ e. sym e) (λ e. sym e) (bytes_decides b a))

pub bytes_eq_self : (a : List ℕ) → bytes_eq a a ≡ true
bytes_eq_self a = (bytes_decides a a).1 refl

cmp_self : (n : ℕ) → nat_cmp n n ≡ Equal
cmp_self n = grind (arith, nat_tests)

slice_cmp_self : (xs : List ℕ) → slice_cmp nat_cmp xs xs ≡ Equal
slice_cmp_self [] = refl
slice_cmp_self (x ∷ xs) = rw (cmp_self x, slice_cmp_self xs) refl

pub later_differs : (code later : List ℕ) → slice_cmp nat_cmp code later ≡ Less → bytes_eq code later ≡ false
later_differs code later less = by (bytes_eq code later) refl
  where
    by : (b : Bool) → bytes_eq code later ≡ b → b ≡ false
    by true e = absurd (let same : code ≡ later = (bytes_decides code later).0 e
        in let equal : slice_cmp nat_cmp code code ≡ Equal = slice_cmp_self code
        in let h : slice_cmp nat_cmp code code ≡ Less = subst (λ c. slice_cmp nat_cmp code c ≡ Less) (sym same) less
        in cc)
    by false e = refl

abbrev is_before : List ℕ → List ℕ → Bool
is_before a b = is_lt (slice_cmp nat_cmp a b)

pub is_less : (a b : List ℕ) → is_before a b ≡ true → slice_cmp nat_cmp a b ≡ Less
is_less a b e = by (slice_cmp nat_cmp a b) e
  where
    by : (o : Ordering) → is_lt o ≡ true → o ≡ Less
    by Less e = refl
    by Equal e = absurd (true≢false (sym e))
    by Greater e = absurd (true≢false (sym e))

is_more : (a b : List ℕ) → is_before a b ≡ false → bytes_eq a b ≡ false → slice_cmp nat_cmp b a ≡ Less
is_more a b e apart = nat_list_cmp_total.antisymm b a ∙ by (slice_cmp nat_cmp a b) refl e
  where
    by : (o : Ordering) → slice_cmp nat_cmp a b ≡ o → is_lt o ≡ false → ordering_reverse o ≡ Less
    by Less f e = absurd (true≢false e)
    by Equal f e = absurd (true≢false (sym ((bytes_decides a b).1
        (slice_cmp-IsAntisymmetric nat_cmp-IsAntisymmetric a b f)) ∙ apart))
    by Greater f e = refl

pub not_before : (a b : List ℕ) → slice_cmp nat_cmp a b ≡ Less → is_before b a ≡ false
not_before a b e = ap is_lt (nat_list_cmp_total.antisymm b a ∙ ap ordering_reverse e)

pub sorted_put_in : (x : List ℕ) (xs : List (List ℕ)) → IsStrictlySortedBy (slice_cmp nat_cmp) xs
    → AllByRecursion (λ y. bytes_eq y x ≡ false) xs → IsStrictlySortedBy (slice_cmp nat_cmp)
    (put_in (λ y. is_before y x) x xs)
unfolding IsStrictlySortedBy
sorted_put_in x [] rise new = (tt, tt)
sorted_put_in x (y ∷ ys) rise new = by (is_before y x) refl (sorted_put_in x ys rise.1 new.1)
  where
    by : (b : Bool) → is_before y x ≡ b → IsStrictlySortedBy (slice_cmp nat_cmp) (put_in (λ y. is_before y x) x ys)
        → IsStrictlySortedBy (slice_cmp nat_cmp) (cond b (y ∷ filter (λ y. is_before y x) ys)
        (filter (λ y. is_before y x) ys) ++ x ∷ cond (not b) (y ∷ filter (λ y. not (is_before y x)) ys)
        (filter (λ y. not (is_before y x)) ys))
    by true e rest = (
      all_put_in (λ z. slice_cmp nat_cmp y z ≡ Less) (λ y. is_before y x) x ys rise.0 (is_less y x e),
      rest,
    )
    by false e rest =
        let less : slice_cmp nat_cmp x y ≡ Less = is_more y x e new.0 in
        let all_more : AllByRecursion (λ z. slice_cmp nat_cmp x z ≡ Less) ys =
        all_weaker (λ z. slice_cmp nat_cmp y z ≡ Less) (λ z. slice_cmp nat_cmp x z ≡ Less)
        (λ z l. nat_list_cmp_total.trans x y z less l) ys rise.0 in
        let none_before : AllByRecursion (λ z. is_before z x ≡ false) ys =
        all_weaker (λ z. slice_cmp nat_cmp x z ≡ Less) (λ z. is_before z x ≡ false) (λ z l. not_before x z l) ys
        all_more in
        let all_after : AllByRecursion (λ z. not (is_before z x) ≡ true) ys =
        all_weaker (λ z. is_before z x ≡ false) (λ z. not (is_before z x) ≡ true) (λ z f. rw f refl) ys none_before
        in
        rw (filter_nothing (λ z. is_before z x) ys none_before, filter_all (λ z. not (is_before z x)) ys all_after)
        ((less, all_more), (rise.0, rise.1))

-- a text that is among these differs from one that differs from each of them
pub apart_from : (s code : List ℕ) (codes : List (List ℕ)) → AllByRecursion (λ c. bytes_eq c code ≡ false) codes
    → list_any (bytes_eq s) codes ≡ true → bytes_eq s code ≡ false
apart_from s code [] h e = absurd (true≢false (sym e))
apart_from s code (c ∷ codes) h e = by (bytes_eq s c) refl e (apart_from s code codes h.1)
  where
    by : (b : Bool) → bytes_eq s c ≡ b → (b || list_any (bytes_eq s) codes) ≡ true
        → (list_any (bytes_eq s) codes ≡ true → bytes_eq s code ≡ false) → bytes_eq s code ≡ false
    by true f k rest = ap (λ x. bytes_eq x code) ((bytes_decides s c).0 f) ∙ h.0
    by false f k rest = rest k
