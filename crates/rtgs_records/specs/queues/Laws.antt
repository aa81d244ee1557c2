-- What holds of a book's orders, their numbers and their queues.
use Rattle.std.specs.Prelude.{◌≡◌, ℕ, List, filter, Some}
use Rattle.std.specs.List.{AllByRecursion, find}
use Rattle.rtgs_book.specs.declared.book.Book.{Book}
use Rattle.rtgs_book.specs.declared.order.Order.{Order}
use Rattle.rtgs_book.specs.Books.{is_waiting}
use Rattle.rtgs_book.specs.Commands.{has_number}
use Rattle.rtgs_book.specs.Queue.{queued_among}
use Rattle.rtgs_book.specs.Soundness.{OrdersAreNumbered}
use Rattle.rtgs_records.specs.queues.Orders.{AreRising}

-- where the orders are numbered from one, each is the first with its number
abbrev pub NumbersLeadToOrders : Type 0
NumbersLeadToOrders = (book : Book) → OrdersAreNumbered book
    → AllByRecursion (λ (o : Order). find (has_number o.number) book.orders ≡ Some o) book.orders

-- a sender's queue among the orders that wait is its queue among all
abbrev pub QueuesAreOfTheWaiting : Type 0
QueuesAreOfTheWaiting = (orders : List Order) (sender : List ℕ)
    → queued_among (filter is_waiting orders) sender ≡ queued_among orders sender

-- where the orders are numbered from one, the numbers of each queue rise
abbrev pub QueuesRise : Type 0
QueuesRise = (book : Book) (sender : List ℕ) → OrdersAreNumbered book → AreRising (queued_among book.orders sender)
