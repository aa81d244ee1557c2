-- Numbers of records, as they are read.
use Rattle.std.specs.Prelude.{◌≡◌, ℕ, ℤ, pos, negsuc, Bool, true, false, List, [], ◌∷◌, map, ◌<◌, ⊤}
use Rattle.std.specs.List.{AllByRecursion}
use Rattle.sqlite.specs.Order.{Row}
use Rattle.sqlite.specs.declared.types.Value.{Value}
use Rattle.sqlite.specs.declared.types.Value.TheVariants.{Null, Int, Real, Text, Blob}
use Rattle.rtgs_book.specs.declared.book.Book.{Book}
use Rattle.rtgs_book.specs.declared.posting.Posting.{Posting}
use Rattle.rtgs_book.specs.declared.order.Order.{Order}
use Rattle.rtgs_book.specs.declared.order_state.OrderState.{OrderState}
use Rattle.rtgs_book.specs.declared.order_state.OrderState.TheVariants.{Queued, Held, Settled, Withdrawn, Rejected}
use Rattle.rtgs_book.specs.declared.mark.Mark.{Mark}
use Rattle.rtgs_rows.specs.TableRecords.{TableRecords}

-- below zero is read as 0, which is no number of a sound book
abbrev pub natural_of : ℤ → ℕ
natural_of (pos n) = n
natural_of (negsuc n) = 0

-- the value with a number below zero read as 0
abbrev pub at_least_zero : Value → Value
at_least_zero Null = Null
at_least_zero (Int n) = Int (pos (natural_of n))
at_least_zero (Real x) = Real x
at_least_zero (Text t) = Text t
at_least_zero (Blob b) = Blob b

-- the row as it is read: at each place that is marked a number below zero is read as 0
abbrev pub as_read : List Bool → Row → Row
as_read [] row = row
as_read (place ∷ places) [] = []
as_read (true ∷ places) (value ∷ row) = at_least_zero value ∷ as_read places row
as_read (false ∷ places) (value ∷ row) = value ∷ as_read places row

-- the rows are read as those of these records
abbrev pub AreReadAs : {A : Type 0} → TableRecords A → List Row → List A → Type 0
AreReadAs records rows all = map (as_read records.counted) rows ≡ map records.shown all

-- the row is in the form of a record of the table
abbrev pub IsFormed : {A : Type 0} → TableRecords A → Row → Type 0
IsFormed {A = A} records row = (it : A) × records.fits it × (as_read records.counted row ≡ records.shown it)

-- ---- the numbers of a record are above zero, as in a sound book

abbrev pub IsNumberedPosting : Posting → Type 0
IsNumberedPosting p = 0 < p.number

abbrev pub IsNumberedState : OrderState → Type 0
IsNumberedState Queued = ⊤
IsNumberedState Held = ⊤
IsNumberedState (Settled mark) = 0 < mark
IsNumberedState Withdrawn = ⊤
IsNumberedState Rejected = ⊤

abbrev pub IsNumberedOrder : Order → Type 0
IsNumberedOrder o = (0 < o.number) × IsNumberedState o.state

abbrev pub IsNumberedMark : Mark → Type 0
IsNumberedMark m = (0 < m.number) × (0 < m.count)

pub record IsNumberedBook (book : Book) : Type 0 where
  pub postings : AllByRecursion IsNumberedPosting book.postings
  pub orders : AllByRecursion IsNumberedOrder book.orders
  pub marks : AllByRecursion IsNumberedMark book.marks
