-- What the desk reads from the records.
use Rattle.std.proofs.Common.{◌≡◌, ℕ, ◌<◌, List, [], ◌∷◌, map, filter, length, get_or, find, Some, ap, ◌∙◌, arith}
use Rattle.rtgs_book.specs.declared.book.Book.{Book}
use Rattle.rtgs_book.specs.declared.order.Order.{Order}
use Rattle.rtgs_book.specs.Books.{is_waiting}
use Rattle.rtgs_book.specs.Commands.{has_number}
use Rattle.rtgs_book.specs.Queue.{queue, queued_among, queued_numbers}
use Rattle.rtgs_records.specs.queues.Laws.{QueuesAreOfTheWaiting}

-- each number of a queue leads to an order
pub leads_home : (os queue : List Order) (numbers : List ℕ) → ((k : ℕ) (d : Order) → k < length numbers
    → find (has_number (get_or numbers k 0)) os ≡ Some (get_or queue k d)) → length numbers ≡ length queue
    → (k : ℕ) → k < length numbers → (o : Order) × (find (has_number (get_or numbers k 0)) os ≡ Some o)
leads_home os [] numbers found same k lt = absurd (omega (arith, same, lt))
leads_home os (o ∷ queue) numbers found same k lt = (get_or (o ∷ queue) k o, found k o lt)

-- the queues of a ledger are those of its book
module _ (law : QueuesAreOfTheWaiting) where
  pub queue_is : (book : Book) (os : List Order) (sender : List ℕ) → os ≡ filter is_waiting book.orders
      → queued_among os sender ≡ queue book sender
  unfolding queue
  queue_is book os sender e = ap (λ (xs : List Order). queued_among xs sender) e ∙ law book.orders sender

  pub numbers_are : (all os : List Order) (sender : List ℕ) → os ≡ filter is_waiting all
      → queued_numbers os sender ≡ queued_numbers all sender
  numbers_are all os sender e = ap (λ (xs : List Order). queued_numbers xs sender) e
      ∙ ap (map (λ (o : Order). o.number)) (law all sender)
