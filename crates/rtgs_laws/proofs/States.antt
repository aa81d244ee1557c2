-- Orders by their states, by their due dates and by their numbers.
use Rattle.std.proofs.Common.{◌≡◌, ℕ, ◌≤◌, ◌+◌, Bool, true, false, cond, List, [], ◌∷◌, map, filter, length, Some, find}
use Rattle.std.proofs.Common.{Option, None, inl, inr}
use Rattle.std.proofs.Common.{refl, sym, ap, ◌∙◌, subst, true≢false, arith}
use Rattle.std.proofs.lemmas.Bool.Decides.{nat_tests}
use Rattle.std.specs.List.{AllByRecursion, range_with_len}
use Rattle.rtgs_book.specs.declared.order.Order.{Order}
use Rattle.rtgs_book.specs.declared.order_state.OrderState.{OrderState}
use Rattle.rtgs_book.specs.declared.order_state.OrderState.TheVariants.{Queued, Held, Settled, Withdrawn, Rejected}
use Rattle.rtgs_book.specs.Books.{is_queued_state, is_held_state, is_waiting_state, is_settled_state}
use Rattle.rtgs_book.specs.Commands.{has_number}
use Rattle.rtgs_book.specs.Soundness.{FitsDue, is_state_under}
use Rattle.rtgs_lists.proofs.Filters.{filter_of}
use Rattle.rtgs_lists.proofs.Lists.{map_same}
use Rattle.rtgs_lists.proofs.Numbers.{not_below}
use Rattle.rtgs_lists.proofs.Finds.{all_found}

-- what a change leaves alone of the elements that pass a test which it leaves alone too
pub kept_filtered : {X Y : Type 0} (g : X → Y) (q : X → Bool) (f : X → X) → ((x : X) → g (f x) ≡ g x)
    → ((x : X) → q (f x) ≡ q x) → (xs : List X) → map g (filter q (map f xs)) ≡ map g (filter q xs)
kept_filtered g q f same passes xs = ap (map g) (filter_of f q q passes xs) ∙ map_same g f same (filter q xs)

pub no_length : {X : Type 0} (xs : List X) → length xs ≤ 0 → xs ≡ []
no_length [] h = refl
no_length (x ∷ xs) h = absurd (omega arith)

-- ---- what a state says

pub waiting_not_settled : (s : OrderState) → is_waiting_state s ≡ true → is_settled_state s ≡ false
waiting_not_settled Queued e = refl
waiting_not_settled Held e = refl
waiting_not_settled (Settled mark) e = absurd (true≢false (sym e))
waiting_not_settled Withdrawn e = refl
waiting_not_settled Rejected e = refl

pub queued_waits : (s : OrderState) → is_queued_state s ≡ true → is_waiting_state s ≡ true
queued_waits Queued e = refl
queued_waits Held e = refl
queued_waits (Settled mark) e = absurd (true≢false (sym e))
queued_waits Withdrawn e = absurd (true≢false (sym e))
queued_waits Rejected e = absurd (true≢false (sym e))

pub held_waits : (s : OrderState) → is_held_state s ≡ true → is_waiting_state s ≡ true
held_waits Queued e = refl
held_waits Held e = refl
held_waits (Settled mark) e = absurd (true≢false (sym e))
held_waits Withdrawn e = absurd (true≢false (sym e))
held_waits Rejected e = absurd (true≢false (sym e))

pub queued_not_settled : (s : OrderState) → is_queued_state s ≡ true → is_settled_state s ≡ false
queued_not_settled s e = waiting_not_settled s (queued_waits s e)

-- what is not settled is under no mark
pub unsettled_not_under : (mark : ℕ) (s : OrderState) → is_settled_state s ≡ false → is_state_under mark s ≡ false
unsettled_not_under mark Queued e = refl
unsettled_not_under mark Held e = refl
unsettled_not_under mark (Settled other) e = absurd (true≢false e)
unsettled_not_under mark Withdrawn e = refl
unsettled_not_under mark Rejected e = refl

pub queued_not_under : (mark : ℕ) (s : OrderState) → is_queued_state s ≡ true → is_state_under mark s ≡ false
queued_not_under mark s e = unsettled_not_under mark s (queued_not_settled s e)

-- ---- due dates

-- each order's date fits its due date
abbrev pub DuesFit : ℕ → List Order → Type 0
DuesFit today os = AllByRecursion (λ (o : Order). FitsDue today o.due o.date o.state) os

-- an order that leaves its queue keeps its date
pub queued_settles : (today : ℕ) (due : Option ℕ) (date mark : ℕ) (s : OrderState) → is_queued_state s ≡ true
    → FitsDue today due date s → FitsDue today due date (Settled mark)
queued_settles today None date mark s e h = refl
queued_settles today (Some due) date mark Queued e h = h
queued_settles today (Some due) date mark Held e h = absurd (true≢false (sym e))
queued_settles today (Some due) date mark (Settled m) e h = absurd (true≢false (sym e))
queued_settles today (Some due) date mark Withdrawn e h = absurd (true≢false (sym e))
queued_settles today (Some due) date mark Rejected e h = absurd (true≢false (sym e))

pub queued_rejected : (today : ℕ) (due : Option ℕ) (date : ℕ) (s : OrderState) → is_queued_state s ≡ true
    → FitsDue today due date s → FitsDue today due date Rejected
queued_rejected today None date s e h = refl
queued_rejected today (Some due) date Queued e h = h
queued_rejected today (Some due) date Held e h = absurd (true≢false (sym e))
queued_rejected today (Some due) date (Settled m) e h = absurd (true≢false (sym e))
queued_rejected today (Some due) date Withdrawn e h = absurd (true≢false (sym e))
queued_rejected today (Some due) date Rejected e h = absurd (true≢false (sym e))

pub waiting_withdrawn : (today : ℕ) (due : Option ℕ) (date : ℕ) (s : OrderState) → is_waiting_state s ≡ true
    → FitsDue today due date s → FitsDue today due date Withdrawn
waiting_withdrawn today None date s e h = refl
waiting_withdrawn today (Some due) date Queued e h = (h.0, h.1, inr h.2)
waiting_withdrawn today (Some due) date Held e h = (h.0, h.1, inl h.2.0)
waiting_withdrawn today (Some due) date (Settled m) e h = absurd (true≢false (sym e))
waiting_withdrawn today (Some due) date Withdrawn e h = absurd (true≢false (sym e))
waiting_withdrawn today (Some due) date Rejected e h = absurd (true≢false (sym e))

-- ---- orders by their numbers

-- what holds of the order that is found holds of each with its number
pub found_by_number : (P : Order → Type 0) (p : Order → Bool) (first : ℕ) (os : List Order) (x : Order)
    → map (λ (o : Order). o.number) os ≡ range_with_len first (length os) → find p os ≡ Some x → P x
    → AllByRecursion (λ o. has_number x.number o ≡ true → P o) os
found_by_number P p first [] x e f h = tt
found_by_number P p first (o ∷ os) x e f h = by (p o) f (found_by_number P p (first + 1) os x rest)
  where
    head : o.number ≡ first
    head = cc

    rest : map (λ (o : Order). o.number) os ≡ range_with_len (first + 1) (length os)
    rest = cc

    others : (n : ℕ) → n ≡ first → (os : List Order) → AllByRecursion (λ (o : Order). first + 1 ≤ o.number) os
        → AllByRecursion (λ o. has_number n o ≡ true → P o) os
    others n is [] a = tt
    others n is (o ∷ os) a = let b = a.0 in ((λ t. absurd (grind (arith, nat_tests))), others n is os a.1)

    by : (b : Bool) → cond b (Some o) (find p os) ≡ Some x → (find p os ≡ Some x → P x
        → AllByRecursion (λ o. has_number x.number o ≡ true → P o) os)
        → AllByRecursion (λ o. has_number x.number o ≡ true → P o) (o ∷ os)
    by true f more =
        let same : o ≡ x = cc in (
          (λ _. subst P (sym same) h),
          others x.number (ap (λ (y : Order). y.number) (sym same) ∙ head) os
              (not_below (λ (o : Order). o.number) (first + 1) os rest),
        )
    by false f more =
        let above : first + 1 ≤ x.number = all_found (λ (y : Order). first + 1 ≤ y.number) p os x
        (not_below (λ (o : Order). o.number) (first + 1) os rest) f in
        ((λ t. absurd (grind (arith, nat_tests))), more f h)
