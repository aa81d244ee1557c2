-- Orders that are queued or held, as contracts see them.
use Rattle.std.specs.Prelude.{◌≡◌, ℕ, ◌+◌, ◌≤◌, ◌<◌, Bool, true, ◌&&◌, List, [], ◌∷◌, ⊤, length, map, filter}
use Rattle.std.specs.Prelude.{slice_index_or, Option, Some}
use Rattle.std.specs.List.{AllByRecursion}
use Rattle.std.specs.Str.{bytes_eq}
use Rattle.rtgs_book.specs.declared.order.Order.{Order}
use Rattle.rtgs_book.specs.declared.order_state.OrderState.{OrderState}
use Rattle.rtgs_book.specs.Books.{is_held, is_waiting, is_queued_state, is_held_state}
use Rattle.rtgs_records.specs.declared.queues.queues.QueueNumbers.{QueueNumbers}
use Rattle.rtgs_records.specs.queues.QueueNumbers.{numbers_of, room_of}

-- the orders that wait, whether they are all that is in memory, the number of the next order, how many more can wait
-- without memory, the sender of whom one more can, and whether that one may be held
pub record OrderList : Type 0 where
  pub orders : List Order
  pub tidy : Bool
  pub next : ℕ
  pub room : ℕ
  pub awaited : Option (List ℕ)
  pub holds : Bool

-- if the order waits, there is room for one more, and its sender is the one of whom one more can; if it is held, that
-- one may be
pub record AwaitsOrder (list : OrderList) (order : Order) : Type 0 where
  pub room : is_waiting order ≡ true → 1 ≤ list.room
  pub awaited : is_waiting order ≡ true → list.awaited ≡ Some order.sender
  pub holds : is_held order ≡ true → list.holds ≡ true

abbrev pub AreRising : List Order → Type 0
AreRising [] = ⊤
AreRising (order ∷ orders) = AllByRecursion (λ (later : Order). order.number < later.number) orders × AreRising orders

-- each of these orders waits
abbrev pub AreWaiting : List Order → Type 0
AreWaiting orders = AllByRecursion (λ (o : Order). is_waiting o ≡ true) orders

-- the numbers of the sender's orders that stand so
abbrev pub numbers_among : (OrderState → Bool) → List Order → List ℕ → List ℕ
numbers_among is_in orders sender =
    map (λ (o : Order). o.number) (filter (λ (o : Order). is_in o.state && bytes_eq o.sender sender) orders)

-- Numbers rise and come before the next one. Each sender's queue and held orders are those of the list. Its queue has
-- room for each of its held orders, and for one order more where one is awaited; so an order needs no memory to enter
-- its queue. There is room among the held where the awaited order may be held. And no order is in memory that waits no
-- more, while they are tidy.
pub record IsKept (orders : List Order) (queues others : QueueNumbers) (next : ℕ) (awaited : Option (List ℕ))
    (holds tidy : Bool) : Type 0
  where
    pub rising : AreRising orders
    pub before : AllByRecursion (λ (o : Order). o.number < next) orders
    pub queued : (sender : List ℕ) → numbers_of queues sender ≡ numbers_among is_queued_state orders sender
    pub held : (sender : List ℕ) → numbers_of others sender ≡ numbers_among is_held_state orders sender
    pub roomy : (sender : List ℕ) → length (numbers_of others sender) ≤ room_of queues sender
    pub ready : (sender : List ℕ) → awaited ≡ Some sender
        → (length (numbers_of others sender) + 1 ≤ room_of queues sender)
        × (holds ≡ true → 1 ≤ room_of others sender)
    pub waiting : tidy ≡ true → AreWaiting orders

-- the order with the number stands at this index
pub record HasNumberAt (number : ℕ) (orders : List Order) (i : ℕ) : Type 0 where
  pub in_range : i < length orders
  pub has_number : (d : Order) → (slice_index_or orders i d).number ≡ number
