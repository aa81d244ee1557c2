-- The first element that passes a test, and lists of which none does.
use Rattle.std.proofs.Common.{◌≡◌, Bool, true, false, cond, ◌||◌, List, [], ◌∷◌, find, None, Some, refl, subst}
use Rattle.std.proofs.Common.{true≢false}
use Rattle.std.specs.List.{AllByRecursion, list_any}

pub find_nothing : {X : Type 0} (p : X → Bool) (xs : List X) → AllByRecursion (λ x. p x ≡ false) xs → find p xs ≡ None
find_nothing p [] h = refl
find_nothing p (x ∷ xs) h = rw h.0 (find_nothing p xs h.1)

pub none_any : {X : Type 0} (q : X → Bool) (xs : List X) → list_any q xs ≡ false → AllByRecursion (λ x. q x ≡ false) xs
none_any q [] e = tt
none_any q (x ∷ xs) e = by (q x) refl e (none_any q xs)
  where
    by : (b : Bool) → q x ≡ b → (b || list_any q xs) ≡ false
        → (list_any q xs ≡ false → AllByRecursion (λ x. q x ≡ false) xs) → AllByRecursion (λ x. q x ≡ false) (x ∷ xs)
    by true f k rest = absurd (true≢false k)
    by false f k rest = (f, rest k)

-- what holds of each element holds of the one that is found
pub all_found : {X : Type 0} (P : X → Type 0) (p : X → Bool) (xs : List X) (x : X) → AllByRecursion P xs
    → find p xs ≡ Some x → P x
all_found P p [] x h e = absurd (cc)
all_found {X} P p (y ∷ ys) x h e = by (p y) e (all_found P p ys x h.1)
  where
    by : (b : Bool) → cond b (Some y) (find p ys) ≡ Some x → (find p ys ≡ Some x → P x) → P x
    by true e rest = let same : y ≡ x = cc in subst P same h.0
    by false e rest = rest e
