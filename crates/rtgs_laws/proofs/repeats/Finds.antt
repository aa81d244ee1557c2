-- The first that passes a test, in lists that grow or change.
use Rattle.std.proofs.Common.{◌≡◌, ℕ, ◌<◌, ◌≤◌, ◌+◌, ◌==◌, Bool, true, false, cond, List, [], ◌∷◌, ◌++◌, map, filter}
use Rattle.std.proofs.Common.{length, Some, find, is_some, refl, sym, ap, ◌∙◌, subst, true≢false, arith}
use Rattle.std.proofs.lemmas.Bool.Decides.{nat_tests}
use Rattle.std.specs.List.{AllByRecursion, range_with_len}
use Rattle.std.specs.Option.{option_map}
use Rattle.rtgs_book.specs.declared.order.Order.{Order}
use Rattle.rtgs_book.specs.Commands.{has_number}
use Rattle.rtgs_lists.proofs.Lists.{all_weaker}
use Rattle.rtgs_lists.proofs.Numbers.{not_below}

module _ {X : Type 0} (p : X → Bool) where
  pub find_left : (xs ys : List X) (x : X) → find p xs ≡ Some x → find p (xs ++ ys) ≡ Some x
  find_left [] ys x e = absurd (cc)
  find_left (y ∷ xs) ys x e = by (p y) e (find_left xs ys x)
    where
      by : (b : Bool) → cond b (Some y) (find p xs) ≡ Some x → (find p xs ≡ Some x → find p (xs ++ ys) ≡ Some x)
          → cond b (Some y) (find p (xs ++ ys)) ≡ Some x
      by true k rest = k
      by false k rest = rest k

  pub find_right : (xs ys : List X) → is_some (find p xs) ≡ false → find p (xs ++ ys) ≡ find p ys
  find_right [] ys e = refl
  find_right (y ∷ xs) ys e = by (p y) e (find_right xs ys)
    where
      by : (b : Bool) → is_some (cond b (Some y) (find p xs)) ≡ false
          → (is_some (find p xs) ≡ false → find p (xs ++ ys) ≡ find p ys)
          → cond b (Some y) (find p (xs ++ ys)) ≡ find p ys
      by true k rest = absurd (true≢false k)
      by false k rest = rest k

  pub find_mapped : (f : X → X) → ((x : X) → p (f x) ≡ p x) → (xs : List X)
      → find p (map f xs) ≡ option_map f (find p xs)
  find_mapped f same [] = refl
  find_mapped f same (x ∷ xs) = rw (same x) (by (p x) (find_mapped f same xs))
    where
      by : (b : Bool) → find p (map f xs) ≡ option_map f (find p xs)
          → cond b (Some (f x)) (find p (map f xs)) ≡ option_map f (cond b (Some x) (find p xs))
      by true rest = refl
      by false rest = rest

  -- what holds of each element holds of the one that is found, which passes
  pub found : (P : X → Type 0) (xs : List X) (x : X) → AllByRecursion P xs → find p xs ≡ Some x → P x × (p x ≡ true)
  found P [] x h e = absurd (cc)
  found P (y ∷ xs) x h e = by (p y) refl e (found P xs x h.1)
    where
      by : (b : Bool) → p y ≡ b → cond b (Some y) (find p xs) ≡ Some x → (find p xs ≡ Some x → P x × (p x ≡ true))
          → P x × (p x ≡ true)
      by true f k rest = let same : y ≡ x = cc in (subst P same h.0, subst (λ z. p z ≡ true) same f)
      by false f k rest = rest k

  -- a filter that keeps all that pass, or none of them
  pub find_kept : (q : X → Bool) → ((x : X) → p x ≡ true → q x ≡ true) → (xs : List X)
      → find p (filter q xs) ≡ find p xs
  find_kept q keeps [] = refl
  find_kept q keeps (x ∷ xs) = by (p x) refl (q x) refl (find_kept q keeps xs)
    where
      by : (a : Bool) → p x ≡ a → (b : Bool) → q x ≡ b → find p (filter q xs) ≡ find p xs
          → find p (cond b (x ∷ filter q xs) (filter q xs)) ≡ cond a (Some x) (find p xs)
      by true e true f rest = rw e refl
      by true e false f rest = absurd (true≢false (sym (keeps x e) ∙ f))
      by false e true f rest = rw e rest
      by false e false f rest = rest

  pub find_dropped : (q : X → Bool) → ((x : X) → p x ≡ true → q x ≡ false) → (xs : List X)
      → is_some (find p (filter q xs)) ≡ false
  find_dropped q drops [] = refl
  find_dropped q drops (x ∷ xs) = by (p x) refl (q x) refl (find_dropped q drops xs)
    where
      by : (a : Bool) → p x ≡ a → (b : Bool) → q x ≡ b → is_some (find p (filter q xs)) ≡ false
          → is_some (find p (cond b (x ∷ filter q xs) (filter q xs))) ≡ false
      by true e true f rest = absurd (true≢false (sym f ∙ drops x e))
      by true e false f rest = rest
      by false e true f rest = rw e rest
      by false e false f rest = rest

  pub find_none_in : (q : X → Bool) (xs : List X) → is_some (find p xs) ≡ false → is_some (find p (filter q xs)) ≡ false
  find_none_in q [] e = refl
  find_none_in q (x ∷ xs) e = by (p x) refl (q x) e (find_none_in q xs)
    where
      by : (a : Bool) → p x ≡ a → (b : Bool) → is_some (cond a (Some x) (find p xs)) ≡ false
          → (is_some (find p xs) ≡ false → is_some (find p (filter q xs)) ≡ false)
          → is_some (find p (cond b (x ∷ filter q xs) (filter q xs))) ≡ false
      by true f b k rest = absurd (true≢false k)
      by false f true k rest = rw f (rest k)
      by false f false k rest = rest k

-- ---- orders by their numbers

pub all_below : (first : ℕ) (os : List Order) → map (λ (o : Order). o.number) os ≡ range_with_len first (length os)
    → AllByRecursion (λ (o : Order). o.number < first + length os) os
all_below first [] e = tt
all_below first (o ∷ os) e =
    let head : o.number ≡ first = cc in
    let rest : map (λ (o : Order). o.number) os ≡ range_with_len (first + 1) (length os) = cc in (
      omega arith,
      all_weaker (λ (x : Order). x.number < first + 1 + length os)
          (λ (x : Order). x.number < first + length (o ∷ os)) (λ x less. omega arith) os
          (all_below (first + 1) os rest),
    )

other_number : (a b : ℕ) → (a < b) → (b == a) ≡ false
other_number a b less = grind (arith, nat_tests)

less_number : (a b : ℕ) → (a < b) → (a == b) ≡ false
less_number a b less = grind (arith, nat_tests)

-- an order that is found is the only one with its number
pub only_one : (p : Order → Bool) (first : ℕ) (os : List Order) (x : Order)
    → map (λ (o : Order). o.number) os ≡ range_with_len first (length os) → find p os ≡ Some x
    → AllByRecursion (λ o. has_number x.number o ≡ true → o ≡ x) os
only_one p first [] x e f = tt
only_one p first (o ∷ os) x e f = by (p o) f (only_one p (first + 1) os x rest)
  where
    head : o.number ≡ first
    head = cc

    rest : map (λ (o : Order). o.number) os ≡ range_with_len (first + 1) (length os)
    rest = cc

    by : (b : Bool) → cond b (Some o) (find p os) ≡ Some x → (find p os ≡ Some x
        → AllByRecursion (λ o. has_number x.number o ≡ true → o ≡ x) os)
        → AllByRecursion (λ o. has_number x.number o ≡ true → o ≡ x) (o ∷ os)
    by true k more =
        let same : o ≡ x = cc in
        let number : x.number ≡ first = ap (λ (y : Order). y.number) (sym same) ∙ head in (
          (λ _. same),
          all_weaker (λ (y : Order). first + 1 ≤ y.number) (λ y. has_number x.number y ≡ true → y ≡ x)
              (λ y le t. absurd (true≢false (sym t ∙ other_number x.number y.number (omega arith)))) os
              (not_below (λ (o : Order). o.number) (first + 1) os rest),
        )
    by false k more =
        let above : first + 1 ≤ x.number = (found p (λ (y : Order). first + 1 ≤ y.number) os x
        (not_below (λ (o : Order). o.number) (first + 1) os rest) k).0 in
        let first_is : o.number ≡ first = head in
        ((λ t. absurd (true≢false (sym t ∙ less_number o.number x.number (omega arith)))), more k)
