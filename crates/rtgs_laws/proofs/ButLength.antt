-- What a sound book keeps, except for how many orders of a sender wait.
use Rattle.std.proofs.Common.{◌≡◌, ◌≤◌, true, [], filter, length}
use Rattle.std.specs.List.{AllByRecursion}
use Rattle.rtgs_book.specs.declared.limits.TheConstants.{LONGEST_QUEUE}
use Rattle.rtgs_book.specs.declared.book.Book.{Book}
use Rattle.rtgs_book.specs.declared.order.Order.{Order}
use Rattle.rtgs_book.specs.Books.{is_closed, is_queued}
use Rattle.rtgs_book.specs.Lookup.{codes_of}
use Rattle.rtgs_book.specs.Queue.{waiting}
use Rattle.rtgs_book.specs.Settle.{today}
use Rattle.rtgs_book.specs.Soundness.{OrdersAreNumbered, PostingsAreNumbered, MarksAreNumbered, CodesRise}
use Rattle.rtgs_book.specs.Soundness.{KeysAreDistinct, OrderReferencesAreDistinct, PostingReferencesAreDistinct}
use Rattle.rtgs_book.specs.Soundness.{PartiesAreKnown, MarksFitOrders, DatesFit, FloorsHold, TotalFits, AutomaticFits}
use Rattle.rtgs_book.specs.Soundness.{IsSound}

pub record QueuesStand (book : Book) : Type 0 where
  pub closed : is_closed book.day.phase ≡ true → filter is_queued book.orders ≡ []
  pub of_the_day : AllByRecursion (λ (o : Order). o.date ≡ today book) (filter is_queued book.orders)

-- at most LONGEST_QUEUE orders of each sender wait
abbrev pub FewWait : Book → Type 0
FewWait book = AllByRecursion (λ code. length (waiting book code) ≤ LONGEST_QUEUE) (codes_of book)

pub record IsSoundButLength (book : Book) : Type 0 where
  pub orders_numbered : OrdersAreNumbered book
  pub postings_numbered : PostingsAreNumbered book
  pub marks_numbered : MarksAreNumbered book
  pub codes_rise : CodesRise book
  pub keys_distinct : KeysAreDistinct book
  pub order_references : OrderReferencesAreDistinct book
  pub posting_references : PostingReferencesAreDistinct book
  pub parties : PartiesAreKnown book
  pub marks : MarksFitOrders book
  pub queues : QueuesStand book
  pub dates : DatesFit book
  pub floors : FloorsHold book
  pub total_fits : TotalFits book
  pub automatic_fits : AutomaticFits book

pub but_length : (book : Book) → IsSound book → IsSoundButLength book
but_length book h = record {
  orders_numbered = h.orders_numbered;
  postings_numbered = h.postings_numbered;
  marks_numbered = h.marks_numbered;
  codes_rise = h.codes_rise;
  keys_distinct = h.keys_distinct;
  order_references = h.order_references;
  posting_references = h.posting_references;
  parties = h.parties;
  marks = h.marks;
  queues = record { closed = h.queues.closed; of_the_day = h.queues.of_the_day };
  dates = h.dates;
  floors = h.floors;
  total_fits = h.total_fits;
  automatic_fits = h.automatic_fits;
}

pub with_length : (book : Book) → IsSoundButLength book → FewWait book → IsSound book
with_length book h short = record {
  orders_numbered = h.orders_numbered;
  postings_numbered = h.postings_numbered;
  marks_numbered = h.marks_numbered;
  codes_rise = h.codes_rise;
  keys_distinct = h.keys_distinct;
  order_references = h.order_references;
  posting_references = h.posting_references;
  parties = h.parties;
  marks = h.marks;
  queues = record { closed = h.queues.closed; short = short; of_the_day = h.queues.of_the_day };
  dates = h.dates;
  floors = h.floors;
  total_fits = h.total_fits;
  automatic_fits = h.automatic_fits;
}
