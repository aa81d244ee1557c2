-- No choice settles more than the greatest.
use Rattle.std.proofs.Common.{◌≡◌, ◌∙◌, ℕ, ◌≤◌, Bool, true, false, cond, ◌&&◌, nat_lt, List, [], ◌∷◌, filter, length}
use Rattle.std.proofs.Common.{sum_by, refl, sym, arith, true≢false}
use Rattle.std.proofs.lemmas.Bool.Decides.{nat_tests}
use Rattle.std.proofs.lemmas.List.Sums.{sum_by-cons}
use Rattle.rtgs_book.specs.declared.book.Book.{Book}
use Rattle.rtgs_book.specs.declared.order.Order.{Order}
use Rattle.rtgs_book.specs.Books.{is_queued}
use Rattle.rtgs_book.specs.Choice.{Choice, is_chosen, chosen, IsAtMost}
use Rattle.rtgs_book.specs.Queue.{orders_before}

and_lt : (q : Bool) (n a b : ℕ) → a ≤ b → (q && nat_lt n a) ≡ true → (q && nat_lt n b) ≡ true
and_lt true n a b le e = grind (arith, nat_tests)
and_lt false n a b le e = e

-- what a choice has, each larger one has
pub is_chosen_too : (book : Book) (less more : Choice) → IsAtMost less more → (o : Order)
    → is_chosen book less o ≡ true → is_chosen book more o ≡ true
unfolding is_chosen
is_chosen_too book less more at_most o = and_lt (is_queued o) (orders_before book o) (less o.sender) (more o.sender)
    (at_most o.sender)

-- what passes the narrower test is no more
shorter : {X : Type 0} (p q : X → Bool) → ((x : X) → p x ≡ true → q x ≡ true) → (xs : List X)
    → length (filter p xs) ≤ length (filter q xs)
shorter p q wider [] = omega arith
shorter p q wider (x ∷ xs) = by (p x) refl (q x) refl (shorter p q wider xs)
  where
    by : (a : Bool) → p x ≡ a → (b : Bool) → q x ≡ b → length (filter p xs) ≤ length (filter q xs)
        → length (cond a (x ∷ filter p xs) (filter p xs)) ≤ length (cond b (x ∷ filter q xs) (filter q xs))
    by true e true k rest = omega arith
    by true e false k rest = absurd (true≢false (sym (wider x e) ∙ k))
    by false e true k rest = omega arith
    by false e false k rest = rest

-- and it adds up to no more
sum_smaller : {X : Type 0} (f : X → ℕ) (p q : X → Bool) → ((x : X) → p x ≡ true → q x ≡ true) → (xs : List X)
    → sum_by f (filter p xs) ≤ sum_by f (filter q xs)
sum_smaller f p q wider [] = omega arith
sum_smaller f p q wider (x ∷ xs) = by (p x) refl (q x) refl (sum_smaller f p q wider xs)
  where
    by : (a : Bool) → p x ≡ a → (b : Bool) → q x ≡ b → sum_by f (filter p xs) ≤ sum_by f (filter q xs)
        → sum_by f (cond a (x ∷ filter p xs) (filter p xs)) ≤ sum_by f (cond b (x ∷ filter q xs) (filter q xs))
    by true e true k rest =
        let one = sum_by-cons f x (filter p xs) in
        let other = sum_by-cons f x (filter q xs) in
        omega (arith, one, other, rest)
    by true e false k rest = absurd (true≢false (sym (wider x e) ∙ k))
    by false e true k rest = let other = sum_by-cons f x (filter q xs) in omega (arith, other, rest)
    by false e false k rest = rest

pub fewer_orders : (book : Book) (less more : Choice) → IsAtMost less more
    → length (chosen book less) ≤ length (chosen book more)
unfolding chosen
fewer_orders book less more at_most =
    shorter (is_chosen book less) (is_chosen book more) (is_chosen_too book less more at_most) book.orders

pub less_value : (book : Book) (less more : Choice) → IsAtMost less more
    → sum_by (λ (o : Order). o.amount) (chosen book less) ≤ sum_by (λ (o : Order). o.amount) (chosen book more)
unfolding chosen
less_value book less more at_most = sum_smaller (λ (o : Order). o.amount) (is_chosen book less) (is_chosen book more)
    (is_chosen_too book less more at_most) book.orders
