-- Lists to which one element is added, and what a search that finds nothing says.
use Rattle.std.proofs.Common.{◌≡◌, ℕ, ◌+◌, ◌++◌, length, length-append, Some, find, is_some, ◌<◌, ◌≤◌, Bool, true}
use Rattle.std.proofs.Common.{false, cond, List, [], ◌∷◌, map, refl, sym, ap, ◌∙◌, subst, true≢false, arith}
use Rattle.std.specs.List.{AllByRecursion, IsDistinct}
use Rattle.rtgs_book.specs.Soundness.{NeverFall, AreNumbered}
use Rattle.std.proofs.lemmas.List.{length-map, map-append}
use Rattle.rtgs_book.specs.declared.limits.TheConstants.{LARGEST_NUMBER}
use Rattle.rtgs_lists.proofs.Lists.{all_push}
use Rattle.rtgs_lists.proofs.Numbers.{numbered_push}

pub distinct_push : {X : Type 0} (E : X → X → Bool) (xs : List X) (x : X) → IsDistinct E xs
    → AllByRecursion (λ y. E y x ≡ false) xs → IsDistinct E (xs ++ x ∷ [])
unfolding IsDistinct
distinct_push E [] x h p = (tt, tt)
distinct_push E (y ∷ ys) x h p = (all_push (λ z. E y z ≡ false) ys x h.0 p.0, distinct_push E ys x h.1 p.1)

pub find_none : {X : Type 0} (p : X → Bool) (xs : List X) → is_some (find p xs) ≡ false
    → AllByRecursion (λ x. p x ≡ false) xs
find_none p [] e = tt
find_none p (x ∷ xs) e = by (p x) refl e (find_none p xs)
  where
    by : (b : Bool) → p x ≡ b → is_some (cond b (Some x) (find p xs)) ≡ false
        → (is_some (find p xs) ≡ false → AllByRecursion (λ x. p x ≡ false) xs)
        → AllByRecursion (λ x. p x ≡ false) (x ∷ xs)
    by true f k rest = absurd (true≢false k)
    by false f k rest = (f, rest k)

pub never_fall_push : (last : ℕ) (dates : List ℕ) → NeverFall last dates → NeverFall last (dates ++ last ∷ [])
never_fall_push last [] h = (tt, omega arith, tt)
never_fall_push last (date ∷ dates) h = (
  all_push (λ later. date ≤ later) dates last h.0 h.1,
  h.1,
  never_fall_push last
      dates h.2,
)

pub numbered_after : {X : Type 0} (number : X → ℕ) (xs : List X) (x : X) → AreNumbered (map number xs)
    → number x ≡ length xs + 1 → length xs < LARGEST_NUMBER → AreNumbered (map number (xs ++ x ∷ []))
numbered_after number xs x h is room =
    let long : length (map number xs) ≡ length xs = length-map xs number in
    let next : number x ≡ length (map number xs) + 1 = omega arith in
    let last : map number (xs ++ x ∷ []) ≡ map number xs ++ (length (map number xs) + 1) ∷ [] =
    map-append number xs (x ∷ []) ∙ ap (λ m. map number xs ++ m ∷ []) next in
    let total = length-append (map number xs) ((length (map number xs) + 1) ∷ []) in
    subst AreNumbered (sym last) (numbered_push (map number xs) h.0, omega arith)
