-- The numbers of a sender's orders that stand so, along a list of orders.
use Rattle.std.proofs.Common.{◌≡◌, ℕ, zero, suc, ◌+◌, ◌<◌, ◌≤◌, Bool, true, false, cond, not, ◌&&◌, ◌==◌, List, [], ◌∷◌}
use Rattle.std.proofs.Common.{◌++◌, length, map, filter, get_or, refl, sym, ap, ◌∙◌, arith}
use Rattle.std.proofs.lemmas.Bool.Decides.{nat_tests}
use Rattle.std.specs.List.{AllByRecursion}
use Rattle.std.specs.Str.{bytes_eq}
use Rattle.rtgs_book.specs.declared.order.Order.{Order}
use Rattle.rtgs_book.specs.declared.order_state.OrderState.{OrderState}
use Rattle.rtgs_book.specs.Commands.{has_number}
use Rattle.rtgs_book.specs.Settle.{altered}
use Rattle.rtgs_records.specs.queues.Orders.{numbers_among}
use Rattle.rtgs_lists.proofs.Lists.{all_filter, all_map}

pub no_more : (number : ℕ) (ns : List ℕ) → length (filter (λ (n : ℕ). not (n == number)) ns) ≤ length ns
no_more number [] = omega arith
no_more number (n ∷ ns) = by (n == number) refl (no_more number ns)
  where
    by : (b : Bool) → (n == number) ≡ b → length (filter (λ (n : ℕ). not (n == number)) ns) ≤ length ns
        → length (filter (λ (n : ℕ). not (n == number)) (n ∷ ns)) ≤ length (n ∷ ns)
    by true e l = rw e (omega arith)
    by false e l = rw e (omega arith)

-- a test that drops one number at least leaves a shorter list
pub one_less : (number : ℕ) (ns : List ℕ) (i : ℕ) → i < length ns → get_or ns i 0 ≡ number
    → length (filter (λ (n : ℕ). not (n == number)) ns) + 1 ≤ length ns
one_less number [] i lt e = absurd (omega arith)
one_less number (n ∷ ns) zero lt e =
    let same : (n == number) ≡ true = grind (arith, nat_tests, e) in
    let l = no_more number ns in
    rw same (omega arith)
one_less number (n ∷ ns) (suc i) lt e = by (n == number) refl (one_less number ns i (omega arith) e)
  where
    by : (b : Bool) → (n == number) ≡ b → length (filter (λ (n : ℕ). not (n == number)) ns) + 1 ≤ length ns
        → length (filter (λ (n : ℕ). not (n == number)) (n ∷ ns)) + 1 ≤ length (n ∷ ns)
    by true e l = rw e (omega arith)
    by false e l = rw e (omega arith)

module _ (is_in : OrderState → Bool) (sender : List ℕ) where
  abbrev pub stands : Order → Bool
  stands order = is_in order.state && bytes_eq order.sender sender

  pub first_number : (order : Order) (orders : List Order) → numbers_among is_in (order ∷ orders) sender
      ≡ cond (stands order) (order.number ∷ numbers_among is_in orders sender) (numbers_among is_in orders sender)
  first_number order orders = by (stands order) refl
    where
      by : (b : Bool) → stands order ≡ b → numbers_among is_in (order ∷ orders) sender
          ≡ cond (stands order) (order.number ∷ numbers_among is_in orders sender)
          (numbers_among is_in orders sender)
      by true e = rw e refl
      by false e = rw e refl

  -- an order at the end of the list goes to the end of the numbers, if it stands so
  pub numbers_push : (orders : List Order) (order : Order)
      → numbers_among is_in (orders ++ order ∷ []) sender ≡ cond (stands order)
      (numbers_among is_in orders sender ++ order.number ∷ []) (numbers_among is_in orders sender)
  numbers_push [] order = first_number order []
  numbers_push (first ∷ orders) order = first_number first (orders ++ order ∷ [])
      ∙ by (stands first) (stands order) refl refl (numbers_push orders order)
      ∙ ap (λ ns. cond (stands order) (ns ++ order.number ∷ []) ns) (sym (first_number first orders))
    where
      by : (a b : Bool) → stands first ≡ a → stands order ≡ b
          → numbers_among is_in (orders ++ order ∷ []) sender ≡ cond (stands order)
          (numbers_among is_in orders sender ++ order.number ∷ []) (numbers_among is_in orders sender)
          → cond (stands first) (first.number ∷ numbers_among is_in (orders ++ order ∷ []) sender)
          (numbers_among is_in (orders ++ order ∷ []) sender)
          ≡ cond (stands order) (cond (stands first) (first.number ∷ numbers_among is_in orders sender)
          (numbers_among is_in orders sender) ++ order.number ∷ [])
          (cond (stands first) (first.number ∷ numbers_among is_in orders sender)
          (numbers_among is_in orders sender))
      by true true e f rest = rw (e, f) (ap (λ ns. first.number ∷ ns) (rest ∙ rw f refl))
      by true false e f rest = rw (e, f) (ap (λ ns. first.number ∷ ns) (rest ∙ rw f refl))
      by false true e f rest = rw (e, f) (rest ∙ rw f refl)
      by false false e f rest = rw (e, f) (rest ∙ rw f refl)

  -- an order that stands so has its number among them
  pub number_among : (orders : List Order) (i : ℕ) (d : Order) → i < length orders → stands (get_or orders i d) ≡ true
      → (j : ℕ) × (j < length (numbers_among is_in orders sender))
      × (get_or (numbers_among is_in orders sender) j 0 ≡ (get_or orders i d).number)
  number_among [] i d lt e = absurd (omega arith)
  number_among (order ∷ orders) zero d lt e = rw e (0, omega arith, refl)
  number_among (order ∷ orders) (suc i) d lt e = by (stands order) refl (number_among orders i d (omega arith) e)
    where
      by : (b : Bool) → stands order ≡ b → (j : ℕ) × (j < length (numbers_among is_in orders sender))
          × (get_or (numbers_among is_in orders sender) j 0 ≡ (get_or orders i d).number)
          → (j : ℕ) × (j < length (numbers_among is_in (order ∷ orders) sender))
          × (get_or (numbers_among is_in (order ∷ orders) sender) j 0 ≡ (get_or orders i d).number)
      by true s (j, below, is) = rw s (suc j, omega arith, is)
      by false s rest = rw s rest

  module _ (number : ℕ) (change : Order → Order) where
    -- an order that stands so no more leaves them
    pub numbers_leave : ((o : Order) → is_in (change o).state ≡ false) → (orders : List Order)
        → numbers_among is_in (map (altered (has_number number) change) orders) sender
        ≡ filter (λ (n : ℕ). not (n == number)) (numbers_among is_in orders sender)
    numbers_leave out [] = refl
    numbers_leave out (order ∷ orders) = by (has_number number order) (stands order) refl refl (numbers_leave out
        orders)
      where
        gone : stands (change order) ≡ false
        gone = rw (out order) refl

        by : (b s : Bool) → has_number number order ≡ b → stands order ≡ s
            → numbers_among is_in (map (altered (has_number number) change) orders) sender
            ≡ filter (λ (n : ℕ). not (n == number)) (numbers_among is_in orders sender)
            → numbers_among is_in (altered (has_number number) change order
            ∷ map (altered (has_number number) change) orders) sender
            ≡ filter (λ (n : ℕ). not (n == number)) (numbers_among is_in (order ∷ orders) sender)
        by true true e f rest = rw (e, f, e, gone) rest
        by true false e f rest = rw (e, f, gone) rest
        by false true e f rest = rw (e, f, e) (ap (λ ns. order.number ∷ ns) rest)
        by false false e f rest = rw (e, f) rest

    -- where it stands so neither before nor after, they stay
    pub numbers_keep : (orders : List Order) → ((k : ℕ) (d : Order) → k < length orders
        → has_number number (get_or orders k d) ≡ true
        → (stands (get_or orders k d) ≡ false) × (stands (change (get_or orders k d)) ≡ false))
        → numbers_among is_in (map (altered (has_number number) change) orders) sender
        ≡ numbers_among is_in orders sender
    numbers_keep [] other = refl
    numbers_keep (order ∷ orders) other = by (has_number number order) (stands order) refl refl
        (numbers_keep orders (λ k d lt. other (suc k) d (omega arith)))
      where
        by : (b s : Bool) → has_number number order ≡ b → stands order ≡ s
            → numbers_among is_in (map (altered (has_number number) change) orders) sender
            ≡ numbers_among is_in orders sender
            → numbers_among is_in (altered (has_number number) change order
            ∷ map (altered (has_number number) change) orders) sender ≡ numbers_among is_in (order ∷ orders) sender
        by true s e f rest =
            let out = other 0 order (omega arith) e in
            let was : stands order ≡ false = out.0 in
            let is : stands (change order) ≡ false = out.1 in
            rw (e, is, was) rest
        by false true e f rest = rw (e, f) (ap (λ ns. order.number ∷ ns) rest)
        by false false e f rest = rw (e, f) rest

  -- what holds of the numbers of all orders holds of theirs
  pub all_numbers : (P : ℕ → Type 0) (orders : List Order) → AllByRecursion (λ (o : Order). P o.number) orders
      → AllByRecursion P (numbers_among is_in orders sender)
  all_numbers P orders h = all_map P (λ (o : Order). o.number) (filter stands orders)
      (all_filter (λ (o : Order). P o.number) stands orders h)
