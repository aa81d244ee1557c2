-- What a taken order leaves: no fewer of its sender's orders are queued, no fewer wait, and its balance is no higher.
use Rattle.std.proofs.Common.{◌≡◌, ℕ, ◌≤◌, ◌+◌, Bool, true, false, ◌&&◌, List, [], ◌∷◌, ◌++◌, map, filter, length}
use Rattle.std.proofs.Common.{length-append, refl, sym, ap, ◌∙◌, arith, pos, ◌+ℤ◌, ◌-ℤ◌, ◌≤ℤ◌, cond, Option, Some, None}
use Rattle.std.proofs.Common.{true≢false}
use Rattle.std.proofs.lemmas.Int.{ints}
use Rattle.std.proofs.lemmas.List.{length-map, map-append}
use Rattle.std.proofs.lemmas.List.Elements.{filter-append}
use Rattle.std.specs.List.{AllByRecursion}
use Rattle.std.specs.Str.{bytes_eq}
use Rattle.rtgs_book.specs.declared.book.Book.{Book}
use Rattle.rtgs_book.specs.declared.new_order.NewOrder.{NewOrder}
use Rattle.rtgs_book.specs.declared.order.Order.{Order}
use Rattle.rtgs_book.specs.declared.mark.Mark.{Mark}
use Rattle.rtgs_book.specs.declared.order_state.OrderState.{OrderState}
use Rattle.rtgs_book.specs.declared.order_state.OrderState.TheVariants.{Settled}
use Rattle.rtgs_book.specs.Books.{is_queued, is_waiting, is_settled}
use Rattle.rtgs_book.specs.Balance.{balance, gain}
use Rattle.rtgs_book.specs.IntSum.{int_sum_by}
use Rattle.rtgs_book.specs.Commands.{settles_at_once, taken_order, with_order, has_number, takes, takes_due}
use Rattle.rtgs_book.specs.Queue.{queue, waiting}
use Rattle.rtgs_book.specs.Outcome.{Outcome, is_done}
use Rattle.rtgs_book.specs.Settle.{restated, settle, next_mark}
use Rattle.rtgs_book.specs.Soundness.{OrdersAreNumbered}
use Rattle.rtgs_lists.proofs.Codes.{bytes_eq_self}
use Rattle.rtgs_lists.proofs.Filters.{filter_nothing}
use Rattle.rtgs_lists.proofs.Lists.{all_push, all_weaker}
use Rattle.rtgs_lists.proofs.Numbers.{eq_self}
use Rattle.rtgs_laws.proofs.NewOrders.{with_due}
use Rattle.rtgs_laws.proofs.repeats.Kept.{none_numbered, by_settling}
use Rattle.rtgs_laws.proofs.repeats.Passing.{choose, choose_book}

takes_accepted : (book : Book) (o : Order) → is_done (takes book o).reply ≡ true
unfolding takes
takes_accepted book o = choose (λ (out : Outcome). is_done out.reply ≡ true)
    (settles_at_once book o.sender o.amount) _ _ refl refl

pub takes_due_accepted : (book : Book) (o : Order) (due : Option ℕ) → is_done (takes_due book o due).reply ≡ true
takes_due_accepted book o None = takes_accepted book o
takes_due_accepted book o (Some due) = refl

-- what a taken order leaves as it was
abbrev pub Leaves : Book → Book → Type 0
Leaves old new = (new.participants ≡ old.participants) × (new.day ≡ old.day) × (length old.orders ≤ length new.orders)

takes_leaves : (book : Book) (o : Order) → Leaves book (takes book o).book
unfolding takes
takes_leaves book o =
    let long = length-append book.orders (o ∷ []) in
    let joined : Leaves book (with_order book o) = (refl, refl, omega arith) in
    choose_book (Leaves book) (settles_at_once book o.sender o.amount) _ _
    (by_settling (Leaves book) (with_order book o) (has_number o.number) joined
    (λ marks. (
      refl,
      refl,
      let same = length-map (book.orders ++ o ∷ [])
          (restated (has_number o.number) (Settled (next_mark (with_order book o)))) in omega arith,
    ))) joined

pub takes_due_leaves : (book : Book) (o : Order) (due : Option ℕ) → Leaves book (takes_due book o due).book
takes_due_leaves book o None = takes_leaves book o
takes_due_leaves book o (Some due) = let long = length-append book.orders (o ∷ []) in (refl, refl, omega arith)

-- the orders that pass a test are no fewer with one order more
joined_grows : (test : Order → Bool) (os : List Order) (o : Order)
    → length (filter test os) ≤ length (filter test (os ++ o ∷ []))
joined_grows test os o =
    let parts : length (filter test (os ++ o ∷ [])) ≡ length (filter test os ++ filter test (o ∷ [])) =
    ap length (filter-append test os (o ∷ [])) in
    let long = length-append (filter test os) (filter test (o ∷ [])) in
    omega arith

unmoved : (is_in : Order → Bool) (state : OrderState) (os : List Order) → AllByRecursion (λ o. is_in o ≡ false) os
    → map (restated is_in state) os ≡ os
unmoved is_in state [] h = refl
unmoved is_in state (o ∷ os) h = rw (h.0, unmoved is_in state os h.1) refl

-- they are no fewer either where that order alone gets another state
restated_grows : (test : Order → Bool) (os : List Order) (o : Order) (state : OrderState)
    → AllByRecursion (λ x. has_number o.number x ≡ false) os
    → length (filter test os) ≤ length (filter test (map (restated (has_number o.number) state) (os ++ o ∷ [])))
restated_grows test os o state none =
    let f : Order → Order = restated (has_number o.number) state in
    let mapped : map f (os ++ o ∷ []) ≡ os ++ f o ∷ [] = map-append f os (o ∷ [])
    ∙ ap (λ rest. rest ++ f o ∷ []) (unmoved (has_number o.number) state os none) in
    let grown = joined_grows test os (f o) in
    let same : length (filter test (map f (os ++ o ∷ []))) ≡ length (filter test (os ++ f o ∷ [])) =
    ap (λ rest. length (filter test rest)) mapped in
    omega arith

-- no fewer orders are queued, and no fewer wait
abbrev pub Grows : List ℕ → Book → Book → Type 0
Grows code old new = (length (queue old code) ≤ length (queue new code))
    × (length (waiting old code) ≤ length (waiting new code))

grows_joined : (book : Book) (o : Order) (code : List ℕ) → Grows code book (with_order book o)
unfolding queue waiting
grows_joined book o code = (
  joined_grows (λ (x : Order). is_queued x && bytes_eq x.sender code) book.orders o,
  joined_grows (λ (x : Order). is_waiting x && bytes_eq x.sender code) book.orders o,
)

grows_settled : (book : Book) (o : Order) (marks : List Mark) (state : OrderState) (code : List ℕ)
    → AllByRecursion (λ x. has_number o.number x ≡ false) book.orders
    → Grows code book (record book {
      orders = map (restated (has_number o.number) state) (book.orders ++ o ∷ []);
      marks = marks;
    })
unfolding queue waiting
grows_settled book o marks state code none = (
  restated_grows (λ (x : Order). is_queued x && bytes_eq x.sender code) book.orders o state none,
  restated_grows (λ (x : Order). is_waiting x && bytes_eq x.sender code) book.orders o state none,
)

pub grows : (book : Book) (sender : List ℕ) (new_order : NewOrder) (due : Option ℕ) (code : List ℕ)
    → OrdersAreNumbered book
    → Grows code book (takes_due book (taken_order book sender (with_due new_order due)) due).book
unfolding takes
grows book sender new_order None code h =
    let new = taken_order book sender (with_due new_order None) in
    choose_book (Grows code book) (settles_at_once book sender new_order.amount) _ _
    (by_settling (Grows code book) (with_order book new) (has_number (length book.orders + 1))
    (grows_joined book new code)
    (λ marks. grows_settled book new marks (Settled (next_mark (with_order book new))) code (none_numbered book h)))
    (grows_joined book new code)
grows book sender new_order (Some due) code h =
    grows_joined book (taken_order book sender (with_due new_order (Some due))) code

-- ---- the balance of the sender

-- the orders that pass the test are queued
abbrev AreQueued : (Order → Bool) → List Order → Type 0
AreQueued is_in os = AllByRecursion (λ order. is_in order ≡ true → is_queued order ≡ true) os

abbrev pub OrdersMove : Type 0
OrdersMove = (book : Book) (order : Order) (code : List ℕ)
    → balance (record book { orders = book.orders ++ order ∷ [] }) code
    ≡ balance book code +ℤ cond (is_settled order) (gain code order) (pos 0)

abbrev pub SettlingMoves : Type 0
SettlingMoves = (book : Book) (is_in : Order → Bool) (code : List ℕ) → AreQueued is_in book.orders
    → balance (settle book is_in) code ≡ balance book code +ℤ int_sum_by (gain code) (filter is_in book.orders)

no_gain : (o : Order) → gain o.sender o ≤ℤ pos 0
unfolding gain
no_gain o = rw (bytes_eq_self o.sender) (by (bytes_eq o.receiver o.sender))
  where
    by : (b : Bool) → (cond b (pos o.amount) (pos 0) -ℤ pos o.amount) ≤ℤ pos 0
    by true = omega (arith, ints)
    by false = omega (arith, ints)

module _ (joins : OrdersMove) (settles : SettlingMoves) (book : Book) (sender : List ℕ)
    (new_order : NewOrder) (h : OrdersAreNumbered book) where
  joined_same : (due : Option ℕ)
      → balance (with_order book (taken_order book sender (with_due new_order due))) sender ≤ℤ balance book sender
  joined_same None =
      let e = joins book (taken_order book sender (with_due new_order None)) sender in omega (arith, ints)
  joined_same (Some due) =
      let e = joins book (taken_order book sender (with_due new_order (Some due))) sender in omega (arith, ints)

  one_queued : AreQueued (has_number (length book.orders + 1))
      (book.orders ++ taken_order book sender (with_due new_order None) ∷ [])
  one_queued = all_push (λ o. has_number (length book.orders + 1) o ≡ true → is_queued o ≡ true) book.orders
      (taken_order book sender (with_due new_order None))
      (all_weaker (λ o. has_number (length book.orders + 1) o ≡ false)
      (λ o. has_number (length book.orders + 1) o ≡ true → is_queued o ≡ true)
      (λ o none e. absurd (true≢false (sym e ∙ none))) book.orders (none_numbered book h)) (λ _. refl)

  batch_is : filter (has_number (length book.orders + 1))
      (book.orders ++ taken_order book sender (with_due new_order None) ∷ [])
      ≡ taken_order book sender (with_due new_order None) ∷ []
  batch_is = filter-append (has_number (length book.orders + 1)) book.orders
      (taken_order book sender (with_due new_order None) ∷ [])
      ∙ rw (filter_nothing _ book.orders (none_numbered book h), eq_self (length book.orders + 1)) refl

  settled_less : balance (settle (with_order book (taken_order book sender (with_due new_order None)))
      (has_number (length book.orders + 1))) sender ≤ℤ balance book sender
  settled_less =
      let new = taken_order book sender (with_due new_order None) in
      let before = joined_same None in
      let less : gain sender new ≤ℤ pos 0 = no_gain new in
      let moved : balance (settle (with_order book new) (has_number (length book.orders + 1))) sender
      ≡ balance (with_order book new) sender +ℤ (gain sender new +ℤ pos 0) =
      settles (with_order book new) (has_number (length book.orders + 1)) sender one_queued
      ∙ ap (λ os. balance (with_order book new) sender +ℤ int_sum_by (gain sender) os) batch_is in
      omega (arith, ints)

  pub covers_less : (due : Option ℕ)
      → balance (takes_due book (taken_order book sender (with_due new_order due)) due).book sender
      ≤ℤ balance book sender
  unfolding takes
  covers_less None = choose_book (λ b. balance b sender ≤ℤ balance book sender)
      (settles_at_once book sender new_order.amount) _ _ settled_less (joined_same None)
  covers_less (Some due) = joined_same (Some due)
