-- What a sound book keeps, rule by rule.
use Rattle.std.specs.Prelude.{◌≡◌, ◌⊎◌, ℕ, ◌≤◌, ◌<◌, pos, ◌≤ℤ◌, Bool, true, false, not, ◌&&◌, ◌==◌, List, [], ◌∷◌}
use Rattle.std.specs.Prelude.{length}
use Rattle.std.specs.Prelude.{map, filter, sum_by, Option, Some, None, unwrap_or, is_some, IsTrue, ⊤}
use Rattle.std.specs.List.{AllByRecursion, IsDistinct, list_any, range_with_len}
use Rattle.std.specs.List.Sorted.{IsStrictlySortedBy}
use Rattle.std.specs.Ordering.{nat_cmp}
use Rattle.std.specs.Cmp.Lexicographic.{slice_cmp}
use Rattle.std.specs.Str.{bytes_eq}
use Rattle.rtgs_money.specs.Date.{is_weekend}
use Rattle.rtgs_book.specs.declared.limits.TheConstants.{MOST_PARTICIPANTS, LONGEST_QUEUE, LARGEST_NUMBER}
use Rattle.rtgs_book.specs.declared.limits.TheConstants.{LARGEST_TOTAL}
use Rattle.rtgs_book.specs.Books.{Book, Participant, Posting, Order, OrderState, Mark, Held, Settled, Withdrawn}
use Rattle.rtgs_book.specs.Books.{is_closed, is_queued, is_held_state, has_due}
use Rattle.rtgs_book.specs.Lookup.{codes_of, is_participant}
use Rattle.rtgs_book.specs.Balance.{balance, floor, total}
use Rattle.rtgs_book.specs.Queue.{waiting}
use Rattle.rtgs_book.specs.Settle.{today}

-- 1, 2, 3 and so on, at most LARGEST_NUMBER
abbrev pub AreNumbered : List ℕ → Type 0
AreNumbered numbers = (numbers ≡ range_with_len 1 (length numbers)) × (length numbers ≤ LARGEST_NUMBER)

abbrev pub OrdersAreNumbered : Book → Type 0
OrdersAreNumbered book = AreNumbered (map (λ (o : Order). o.number) book.orders)

abbrev pub PostingsAreNumbered : Book → Type 0
PostingsAreNumbered book = AreNumbered (map (λ (p : Posting). p.number) book.postings)

abbrev pub MarksAreNumbered : Book → Type 0
MarksAreNumbered book = AreNumbered (map (λ (m : Mark). m.number) book.marks)

-- codes rise strictly, and there are at most MOST_PARTICIPANTS
abbrev pub AreCodes : List (List ℕ) → Type 0
AreCodes codes = IsStrictlySortedBy (slice_cmp nat_cmp) codes × (length codes ≤ MOST_PARTICIPANTS)

abbrev pub CodesRise : Book → Type 0
CodesRise book = AreCodes (codes_of book)

abbrev pub KeysAreDistinct : Book → Type 0
KeysAreDistinct book = IsDistinct bytes_eq (map (λ (p : Participant). p.key) book.participants)

-- what names an order for good
abbrev pub is_same_name : List ℕ × List ℕ → List ℕ × List ℕ → Bool
is_same_name one other = bytes_eq one.0 other.0 && bytes_eq one.1 other.1

-- no sender uses a reference twice
abbrev pub OrderReferencesAreDistinct : Book → Type 0
OrderReferencesAreDistinct book = IsDistinct is_same_name (map (λ (o : Order). (o.sender, o.reference)) book.orders)

abbrev pub PostingReferencesAreDistinct : Book → Type 0
PostingReferencesAreDistinct book = IsDistinct bytes_eq (map (λ (p : Posting). p.reference) book.postings)

-- the order is between two participants
abbrev pub has_parties : Book → Order → Bool
has_parties book o = is_participant book o.sender && is_participant book o.receiver
    && not (bytes_eq o.sender o.receiver)

abbrev pub PartiesAreKnown : Book → Type 0
PartiesAreKnown book =
    AllByRecursion (λ o. IsTrue (has_parties book o)) book.orders
    × AllByRecursion (λ (p : Posting). IsTrue (is_participant book p.code)) book.postings

-- a settled order's mark is there, with the order's date
abbrev pub HasMark : List Mark → ℕ → OrderState → Type 0
HasMark marks date (Settled mark) = IsTrue (list_any (λ (m : Mark). (m.number == mark) && (m.date == date)) marks)
HasMark marks date state = ⊤

abbrev pub is_state_under : ℕ → OrderState → Bool
is_state_under mark (Settled m) = m == mark
is_state_under mark state = false

-- the orders that the mark settled
abbrev pub orders_under : Book → ℕ → List Order
orders_under book mark = filter (λ (o : Order). is_state_under mark o.state) book.orders

-- the mark has orders, and counts them and their value
pub record CountsItsOrders (book : Book) (mark : Mark) : Type 0 where
  pub some : 1 ≤ mark.count
  pub count : mark.count ≡ length (orders_under book mark.number)
  pub value : mark.value ≡ pos (sum_by (λ (o : Order). o.amount) (orders_under book mark.number))

abbrev pub MarksFitOrders : Book → Type 0
MarksFitOrders book =
    AllByRecursion (λ (o : Order). HasMark book.marks o.date o.state) book.orders
    × AllByRecursion (CountsItsOrders book) book.marks

-- nothing is queued while the desk is closed, a sender has at most LONGEST_QUEUE orders that are queued or held, and a
-- queued order is of the day
pub record QueuesFit (book : Book) : Type 0 where
  pub closed : IsTrue (is_closed book.day.phase) → filter is_queued book.orders ≡ []
  pub short : AllByRecursion (λ code. length (waiting book code) ≤ LONGEST_QUEUE) (codes_of book)
  pub of_the_day : AllByRecursion (λ (o : Order). o.date ≡ today book) (filter is_queued book.orders)

-- the dates don't fall along the list, and none is after the last
abbrev pub NeverFall : ℕ → List ℕ → Type 0
NeverFall last [] = ⊤
NeverFall last (date ∷ dates) = AllByRecursion (λ later. date ≤ later) dates × (date ≤ last) × NeverFall last dates

abbrev pub AreWeekdays : List ℕ → Type 0
AreWeekdays dates = AllByRecursion (λ date. is_weekend date ≡ false) dates

-- how an order with this due date is dated, by where it stands: by its due date, which is later than the day's, while
-- it is held; not after the day's, once it has entered its queue; and where it was withdrawn in one of these ways
abbrev pub IsDatedBy : ℕ → ℕ → ℕ → OrderState → Type 0
IsDatedBy today due date Held = (date ≡ due) × (today < date)
IsDatedBy today due date Withdrawn = (date ≡ due) ⊎ (date ≤ today)
IsDatedBy today due date state = date ≤ today

-- a due date is on a weekday, and the order's date is not before it; what is held has a due date
abbrev pub FitsDue : ℕ → Option ℕ → ℕ → OrderState → Type 0
FitsDue today None date state = is_held_state state ≡ false
FitsDue today (Some due) date state = (is_weekend due ≡ false) × (due ≤ date) × IsDatedBy today due date state

-- No date counts as 0, which is before every date.
pub record DatesFit (book : Book) : Type 0 where
  pub dated : is_closed book.day.phase ≡ false → IsTrue (is_some book.day.date)
  pub weekday : is_some book.day.date ≡ true → is_weekend (today book) ≡ false
  pub order_weekdays : AreWeekdays (map (λ (o : Order). o.date) book.orders)
  pub mark_weekdays : AreWeekdays (map (λ (m : Mark). m.date) book.marks)
  pub orders : NeverFall (today book) (map (λ (o : Order). o.date) (filter (λ o. not (has_due o)) book.orders))
  pub dues : AllByRecursion (λ (o : Order). FitsDue (today book) o.due o.date o.state) book.orders
  pub marks : NeverFall (today book) (map (λ (m : Mark). m.date) book.marks)
  pub postings : NeverFall (today book) (map (λ (p : Posting). unwrap_or p.date 0) book.postings)

-- no day is automatic while the desk is closed
abbrev pub AutomaticFits : Book → Type 0
AutomaticFits book = IsTrue (is_closed book.day.phase) → book.day.automatic ≡ false

abbrev pub FloorsHold : Book → Type 0
FloorsHold book = AllByRecursion (λ code. floor book code ≤ℤ balance book code) (codes_of book)

abbrev pub TotalFits : Book → Type 0
TotalFits book = total book ≤ℤ pos LARGEST_TOTAL

-- rules 1 to 13, and rule 15, in the order in which `check` names them
pub record IsSound (book : Book) : Type 0 where
  pub orders_numbered : OrdersAreNumbered book
  pub postings_numbered : PostingsAreNumbered book
  pub marks_numbered : MarksAreNumbered book
  pub codes_rise : CodesRise book
  pub keys_distinct : KeysAreDistinct book
  pub order_references : OrderReferencesAreDistinct book
  pub posting_references : PostingReferencesAreDistinct book
  pub parties : PartiesAreKnown book
  pub marks : MarksFitOrders book
  pub queues : QueuesFit book
  pub dates : DatesFit book
  pub floors : FloorsHold book
  pub total_fits : TotalFits book
  pub automatic_fits : AutomaticFits book
