-- What a day report gathers of a day.
use Rattle.std.specs.Prelude.{◌≡◌, ℕ, ℤ, pos, ◌+ℤ◌, List, length}
use Rattle.std.specs.BTreeMap.{BTreeMap}
use Rattle.rtgs_book.specs.declared.book.Book.{Book}
use Rattle.rtgs_book.specs.declared.order.Order.{Order}
use Rattle.rtgs_book.specs.declared.standing.Standing.{Standing}
use Rattle.rtgs_book.specs.Lookup.{codes_of}
use Rattle.rtgs_statements.specs.declared.day_sums.DaySums.{DaySums}
use Rattle.rtgs_statements.specs.declared.ordered.Ordered.{Ordered}
use Rattle.rtgs_statements.specs.declared.line.Line.TheVariants.{Orders}
use Rattle.rtgs_statements.specs.declared.party.Party.TheVariants.{Sender, Receiver}
use Rattle.rtgs_statements.specs.Records.{postings_on, orders_on, marks_on}
use Rattle.rtgs_statements.specs.Rows.{settled_by}
use Rattle.rtgs_statements.specs.Sums.{IsSmall, posted, sent, received, sum_at}
use Rattle.rtgs_statements.specs.Tallies.{tally_of, tally_with, no_orders, HaveRoom}
use Rattle.rtgs_statements.specs.Texts.{orders_line}

-- ---- totals under codes

abbrev pub TotalsByCode : Type 0
TotalsByCode = BTreeMap (List ℕ) ℤ

abbrev pub TotalsAreSmall : TotalsByCode → Type 0
TotalsAreSmall totals = (code : List ℕ) → IsSmall (sum_at totals code)

-- each total grew by so much
abbrev pub IsAddedTo : TotalsByCode → (List ℕ → ℤ) → TotalsByCode → Type 0
IsAddedTo old by new = (code : List ℕ) → sum_at new code ≡ sum_at old code +ℤ by code

-- ---- what orders come to

pub record HasNone (ordered : Ordered) : Type 0 where
  pub sent : (code : List ℕ) → sum_at ordered.sent code ≡ pos 0
  pub received : (code : List ℕ) → sum_at ordered.received code ≡ pos 0
  pub tallies : (standing : Standing) → tally_of ordered.tallies standing ≡ no_orders

-- it leaves room for one order more
pub record IsRoomy (ordered : Ordered) : Type 0 where
  pub sent : TotalsAreSmall ordered.sent
  pub received : TotalsAreSmall ordered.received
  pub tallies : HaveRoom ordered.tallies

-- with this order too
pub record Adds (old : Ordered) (order : Order) (new : Ordered) : Type 0 where
  pub sent : IsAddedTo old.sent (λ code. settled_by Sender code order) new.sent
  pub received : IsAddedTo old.received (λ code. settled_by Receiver code order) new.received
  pub tallies : (standing : Standing) → tally_of new.tallies standing
      ≡ tally_with (tally_of old.tallies standing) standing order

-- these are all the orders
pub record GathersOrders (ordered : Ordered) (orders : List Order) : Type 0 where
  pub sent : (code : List ℕ) → sum_at ordered.sent code ≡ sent code orders
  pub received : (code : List ℕ) → sum_at ordered.received code ≡ received code orders
  pub standings : (standing : Standing) → Orders standing (tally_of ordered.tallies standing).count
      (tally_of ordered.tallies standing).cents ≡ orders_line orders standing

-- ---- a day

-- the codes of the book, and what its records of the date come to
pub record IsDayOf (day : DaySums) (book : Book) (date : ℕ) : Type 0 where
  pub codes : day.codes.items ≡ codes_of book
  pub posted : (code : List ℕ) → sum_at day.posted code ≡ posted code (postings_on date book.postings)
  pub ordered : GathersOrders day.ordered (orders_on date book.orders)
  pub marks : day.marks ≡ length (marks_on date book.marks)
